-- One item carried out: what a good item is, and that call and event agree.
-- Assumes nothing.
use Rattle.std.proofs.Common.{◌≡◌, ℕ, ◌+◌, ◌/◌, ◌%◌, ◌<◌, ◌≤◌, Bool, true, false, ◌&&◌, ◌||◌, eqb, ltb, List, length, drop, refl, ap, ◌∙◌, ltb-true, eq-eqb, ne_eqb, eqb-true}
use mathlib.Core.Bool.{false≢true}
use Rattle.slices.specs.Bytes.{word_at}
use Rattle.slices.proofs.Choices.{both}
use Rattle.chip.specs.declared.Done.{Done}
use Rattle.chip.specs.Outcome.{Outcome, Transacted}
use Rattle.chip.specs.Events.{Chip, Good, sends, waits}
use Rattle.chip.proofs.Events.{sent_is}
use Rattle.batch.specs.Items.{length_in, flag_in, good_item, event_in}
use Rattle.batch.specs.Found.{OneDone}

module _ (item : List ℕ) where
  pub waits-is : flag_in item ≡ 16 → event_in item ≡ waits (word_at item 3)
  unfolding event_in
  waits-is e = rw (eq-eqb (flag_in item) 16 e)

  pub sends-is : (flag_in item ≡ 16 → ⊥) → event_in item ≡ sends (drop 3 item) (flag_in item / 2) (eqb (flag_in item % 2) 1)
  unfolding event_in
  sends-is n = rw (ne_eqb (flag_in item) 16 n)

  module _ (g : good_item item ≡ true) where
    pub item-long : length item ≡ 3 + length_in item
    unfolding good_item
    item-long = eqb-true (length item) (3 + length_in item) (both (eqb (length item) (3 + length_in item)) (ltb (flag_in item) 16 || eqb (flag_in item) 16 && eqb (length_in item) 4) g).0

    pub flag_small : (flag_in item ≡ 16 → ⊥) → flag_in item < 16
    unfolding good_item
    flag_small n = go (ltb (flag_in item) 16) refl (rw (ne_eqb (flag_in item) 16 n) at (both (eqb (length item) (3 + length_in item)) (ltb (flag_in item) 16 || eqb (flag_in item) 16 && eqb (length_in item) 4) g).1)
      where
        go : (b : Bool) → ltb (flag_in item) 16 ≡ b → b || false ≡ true → flag_in item < 16
        go true e h = ltb-true (flag_in item) 16 e
        go false e h = absurd (false≢true h)

-- a transaction
pub one-sends : (c : Chip) → Good c → (bytes : List ℕ) (pulses : ℕ) (w : Bool) → length bytes ≤ 65536 → pulses ≤ 7 → (response : List ℕ) → length response ≡ length bytes
    → {o : Done} {array' response' : List ℕ} → Transacted c.device c.array bytes pulses w response o.answer o.device array' response'
    → OneDone (sends bytes pulses w) c o array' response'
one-sends c g bytes pulses w h p response l m =
    let e = sent_is c g bytes pulses w h p response l in
    record {
      answer = m.answer ∙ ap (λ (o : Outcome). o.answer) e;
      device = m.device ∙ ap (λ (o : Outcome). o.device) e;
      memory = m.memory ∙ ap (λ (o : Outcome). o.array) e;
      line = m.line ∙ ap (λ (o : Outcome). o.response) e;
    }
