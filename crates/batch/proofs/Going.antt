-- The second pass: one event carried out, what is left after it, and the turns of the loop.
-- Assumes nothing.
use Rattle.std.proofs.Common.{◌≡◌, ℕ, ◌+◌, ◌-◌, ◌<◌, ◌≤◌, true, List, [], ◌∷◌, map, length, take, drop, set, sym, refl, ap, ◌∙◌, arith, length-set}
use borrow.Rule.Slice.PartMut.{put_mid}
use Rattle.slices.specs.Changed.{laid}
use Rattle.slices.proofs.Choices.{both}
use Rattle.slices.proofs.Laid.{laid_none, laid_more, laid-length, lent_laid, set-laid}
use Rattle.slices.proofs.Parts.{length-lent}
use Rattle.device.specs.declared.Device.{Device}
use Rattle.device.specs.Chip.{chip}
use Rattle.chip.specs.declared.Done.{Done}
use Rattle.chip.specs.Events.{Chip, Good, Event, sends, waits, starts, loses, after, reply, missed, story}
use Rattle.chip.proofs.Events.{line-length, after-good}
use Rattle.batch.specs.declared.Tally.{Tally}
use Rattle.batch.specs.Items.{items_of, good_item, all_good, event_in, events_of}
use Rattle.batch.specs.Batch.{lines, numbers, room_of, room_for, wrapped}
use Rattle.batch.specs.Found.{OneDone, Carried, carried_from, CarriedAs}

-- ---- a list of events

-- an event has as many response bytes as it needs
pub reply-length : (e : Event) (c : Chip) → length (reply e c).line ≡ room_of e
reply-length (sends bytes p w) c = line-length c bytes p w
reply-length (waits t) c = refl
reply-length starts c = refl
reply-length (loses mask told) c = refl

-- a sum that was wrapped may go on
wrapped-more : (m x rest : ℕ) → wrapped (wrapped (m + x) + rest) ≡ wrapped (m + (x + rest))
wrapped-more m x rest = omega arith

-- one event carried out, the rest is left
pub carried-more : (e : Event) (es : List Event) (c : Chip) (a : ℕ) (r : List ℕ) (k : ℕ) (s : List ℕ) (m : ℕ) → a ≤ length r → k ≤ length s
    → carried_from (e ∷ es) c a r k s m
    ≡ carried_from es (after e c) (a + room_of e) (laid a (reply e c).line r) (k + 1) (laid k ((reply e c).answer.number ∷ []) s) (wrapped (m + (reply e c).answer.missing))
unfolding carried_from
carried-more e es c a r k s m h l =
    let ls = lines (story es (after e c)) in
    let ns = numbers (story es (after e c)) in
    rw (
      ← reply-length e c,
      laid_more a (reply e c).line ls r h,
      laid_more k ((reply e c).answer.number ∷ []) ns s l,
      wrapped-more m (reply e c).answer.missing (missed es (after e c)),
    )

pub carried_none : (c : Chip) (a : ℕ) (r : List ℕ) (k : ℕ) (s : List ℕ) (m : ℕ) → a ≤ length r → k ≤ length s → wrapped m ≡ m → carried_from [] c a r k s m ≡ record { chip = c; responses = r; answers = s; missing = m }
unfolding carried_from
carried_none c a r k s m h l z = let n : wrapped (m + 0) ≡ m = omega arith in rw (laid_none a r h, laid_none k s l, n)

-- ---- the loop

-- what is left, carried out from here, gives what the whole gives from the start
pub record Going (rest : List (List ℕ)) (whole : Carried) (from k : ℕ) (t : Tally) (array responses answers : List ℕ) : Type 0 where
  pub good : Good (chip t.device array)
  pub formed : all_good rest ≡ true
  pub room : from + room_for (map event_in rest) ≤ length responses
  pub places : k + length (map event_in rest) ≤ length answers
  pub small : wrapped t.missing ≡ t.missing
  pub same : carried_from (map event_in rest) (chip t.device array) from responses k answers t.missing ≡ whole

module _ {rest : List (List ℕ)} {whole : Carried} {from k : ℕ} {t : Tally} {array responses answers : List ℕ} (g : Going rest whole from k t array responses answers) (item : List ℕ) (is : List (List ℕ)) (next : rest ≡ item ∷ is) where
  pub going-good : good_item item ≡ true
  going-good = (both (good_item item) (all_good is) (rw next at g.formed)).0

  pub going-room : from + room_of (event_in item) ≤ length responses
  going-room = omega (arith, rw next at g.room)

  pub going-place : k < length answers
  going-place = omega (arith, rw next at g.places)

  -- the part of the responses that the item is lent
  pub going-part : (end : ℕ) → end ≡ from + room_of (event_in item) → length (take (end - from) (drop from responses)) ≡ room_of (event_in item)
  going-part end e =
      let h : from ≤ end = omega arith in
      let l : end ≤ length responses = omega (arith, going-room) in
      length-lent from end responses h l ∙ omega arith

  pub going_next : (end : ℕ) → end ≡ from + room_of (event_in item) → {o : Done} {array' part : List ℕ} → OneDone (event_in item) (chip t.device array) o array' part → (m : ℕ) → m ≡ wrapped (t.missing + o.answer.missing)
      → Going is whole end (k + 1) (record { device = o.device; missing = m }) array' (put_mid from (end - from) responses part) (set answers k o.answer.number)
  going_next end e {o} {array'} {part} done m sum =
      let c : Chip = chip t.device array in
      let ev : Event = event_in item in
      let es : List Event = map event_in is in
      let f : from ≤ end = omega arith in
      let pl : length part ≡ end - from = ap length done.line ∙ reply-length ev c ∙ omega arith in
      let rs : put_mid from (end - from) responses part ≡ laid from part responses = lent_laid from end responses part f pl in
      let st : set answers k o.answer.number ≡ laid k (o.answer.number ∷ []) answers = set-laid k o.answer.number answers going-place in
      let rl : from + length part ≤ length responses = omega (arith, going-room) in
      let rm = rw next at g.room in
      let pm = rw next at g.places in
      record {
        good = rw (done.device, done.memory) (after-good ev c g.good);
        formed = (both (good_item item) (all_good is) (rw next at g.formed)).1;
        room = rw (rs, laid-length from part responses rl) (omega (arith, rm));
        places = rw (length-set answers k o.answer.number) (omega (arith, pm));
        small = rw sum (omega arith);
        same = rw (rs, st, sum, e, done.device, done.memory, done.line, done.answer) (sym (carried-more ev es c from responses k answers t.missing (omega (arith, rm)) (omega (arith, going-place))) ∙ (rw next at g.same));
      }

pub going-first : (d : Device) (array items responses answers : List ℕ) → Good (chip d array) → all_good (items_of items) ≡ true → room_for (events_of items) ≤ length responses → length (events_of items) ≤ length answers
    → (rest : List (List ℕ)) → rest ≡ items_of items → (k : ℕ) → k ≡ 0 → Going rest (carried_from (events_of items) (chip d array) 0 responses 0 answers 0) 0 k (record { device = d; missing = 0 }) array responses answers
going-first d array items responses answers g f r p rest e k z =
    rw (e, z)
    record { good = g; formed = f; room = omega arith; places = omega arith; small = refl; same = refl }

pub going_end : {rest : List (List ℕ)} {whole : Carried} {from k : ℕ} {t : Tally} {array responses answers : List ℕ} → Going rest whole from k t array responses answers → rest ≡ [] → CarriedAs whole t array responses answers
going_end {from = from} {k = k} {t = t} {array = array} {responses = responses} {answers = answers} g z =
    let rm = rw z at g.room in
    let pm = rw z at g.places in
    let e = sym (carried_none (chip t.device array) from responses k answers t.missing (omega (arith, rm)) (omega (arith, pm)) g.small) ∙ (rw z at g.same) in
    record {
      device = ap (λ (o : Carried). o.chip.device) e;
      missing = ap (λ (o : Carried). o.missing) e;
      memory = ap (λ (o : Carried). o.chip.array) e;
      lines = ap (λ (o : Carried). o.responses) e;
      numbers = ap (λ (o : Carried). o.answers) e;
    }
