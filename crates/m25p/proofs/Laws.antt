-- What the C calls give, by what unpacking answers; and that each promise admits one outcome only.
-- Assumes nothing.
use mathlib.Core.Path.{◌≡◌, refl, sym, ap, ◌∙◌}
use mathlib.Core.Bool.{Bool, true, not, ◌&&◌}
use mathlib.Core.List.{List}
use Prim.Native.Nat.{ℕ, zero, suc, ◌≤◌}
use borrow.Author.Tests.{eq-eqb, ne_eqb, not-false}
use lib.Dec.{eqb}
use lib.ListN.{length}
use Rattle.slices.specs.Changed.{map_at, put, stored}
use Rattle.slices.proofs.Stores.{stored-whole}
use Rattle.slices.proofs.Choices.{both, past, other}
use Rattle.memory.specs.Missing.{most_missing}
use Rattle.parts.specs.Parts.{figures_of, known_part}
use Rattle.device.specs.declared.Device.{Device}
use Rattle.device.specs.declared.Checked.{Checked}
use Rattle.device.specs.Chip.{Chip, chip}
use Rattle.device.specs.Device.{on_zero, sound, ranged_of, zero_record, delivered}
use Rattle.device.specs.Time.{Timed, Handed}
use Rattle.device.specs.Packing.{packed_length, pack_of, unpack_answer, unpack_of}
use Rattle.device.proofs.Calls.{length-pack}
use Rattle.device.proofs.Sound.{delivered-sound, slots-long, locks-long}
use Rattle.device.proofs.Inverse.{opened}
use Rattle.chip.specs.declared.Answer.{Answer}
use Rattle.chip.specs.declared.answers.Verdict.TheVariants.{Refused}
use Rattle.chip.specs.Answers.{delivery_answer}
use Rattle.chip.specs.Outcome.{Outcome, bare, outcome_of, transacted, Meets, Delivered}
use Rattle.chip.proofs.Rules.{answer-few, stays-sound}
use Rattle.m25p.specs.Calls.{Keeps, packed_answer, high, packed_by, transacted_c, Called, timed_c, CalledOn, delivery_c, DeliveredC}

-- ---- packing

-- the number that unpacking answers
pub named : (b : List ℕ) → (unpack_of b).answer ≡ unpack_answer b
unfolding unpack_of
named b = refl

-- bytes that unpack hold a sound record
pub unpacked-sound : (b : List ℕ) → (unpack_of b).answer ≡ 0 → sound (unpack_of b).device ≡ true
unpacked-sound b e = let o = opened b e in rw o.fields o.is-sound

-- an answer that is not 0 leaves the packed bytes
pub kept : (k : ℕ) (d : Device) (b : List ℕ) → (k ≡ 0 → ⊥) → b ≡ packed_by k d b
kept k d b n = other k (pack_of d) b n

-- what is stored over bytes of a packing's length, of a record that is sound where the answer is 0
pub stores : (k : ℕ) (d : Device) (b : List ℕ) {b' : List ℕ} → b' ≡ on_zero k (map_at (stored 0 (pack_of d)) b) b → length b ≡ packed_length → (k ≡ 0 → sound d ≡ true) → b' ≡ packed_by k d b
stores zero d b e l s = e ∙ stored-whole (pack_of d) b (length-pack d (slots-long d (s refl)) (locks-long d (s refl)) ∙ sym l)
stores (suc k) d b e l s = e

-- only the record of an answer of 0 is looked at
pub same_next : (k : ℕ) (d e : Device) (b : List ℕ) → (k ≡ 0 → d ≡ e) → packed_by k d b ≡ packed_by k e b
same_next zero d e b h = ap pack_of (h refl)
same_next (suc k) d e b h = refl

-- ---- an answer with a number alone

-- 8 or 6 of the packing, else k
abbrev pub number_on : List ℕ → ℕ → ℕ
number_on packed k = on_zero (unpack_answer packed) k (unpack_answer packed)

-- as the code goes: what unpacking gave
module _ (packed : List ℕ) {came : Checked} (e : came ≡ unpack_of packed) where
  -- the packing is refused: whatever k is, the number is that of the packing, and not 0
  pub turned-away : (k : ℕ) {r : ℕ} → (came.answer ≡ 0 → ⊥) → r ≡ packed_answer (bare came.answer) → (r ≡ packed_answer (bare (number_on packed k))) × (number_on packed k ≡ 0 → ⊥)
  turned-away k n h =
      let a = ap (λ (x : Checked). x.answer) e ∙ named packed in
      let q = other (unpack_answer packed) k (unpack_answer packed) (λ z. n (a ∙ z)) in
      (h ∙ ap (λ (j : ℕ). packed_answer (bare j)) (a ∙ q), λ w. n (a ∙ (q ∙ w)))

  -- the packing is that of a sound record
  pub came-in : came.answer ≡ 0 → unpack_answer packed ≡ 0
  came-in z = sym (ap (λ (x : Checked). x.answer) e ∙ named packed) ∙ z

  -- and the call on it answers k and gives d, sound again
  pub settled : {done : Checked} {k r : ℕ} {d : Device} {packed' : List ℕ} → came.answer ≡ 0 → done.answer ≡ k → done.device ≡ d → (sound (unpack_of packed).device ≡ true → sound done.device ≡ true)
      → packed' ≡ on_zero done.answer (map_at (stored 0 (pack_of done.device)) packed) packed → r ≡ packed_answer (bare done.answer) → (r ≡ packed_answer (bare k)) × (packed' ≡ packed_by k d packed)
  settled {done} {k} z a b s p h =
      let y = named packed ∙ came-in z in
      let q = stores done.answer done.device packed p (opened packed y).long (λ w. s (unpacked-sound packed y)) in
      (h ∙ ap (λ (j : ℕ). packed_answer (bare j)) a, q ∙ ap (λ (j : ℕ). packed_by j done.device packed) a ∙ ap (λ (v : Device). packed_by k v packed) b)

-- ---- a transaction

-- the packing is refused
pub refused : (packed array sent : List ℕ) (pulses w : ℕ) (response : List ℕ) {r : ℕ} → ((unpack_of packed).answer ≡ 0 → ⊥) → r ≡ packed_answer (bare (unpack_of packed).answer)
    → Called (transacted_c packed array sent pulses w response) packed r packed array response
unfolding transacted_c outcome_of
refused packed array sent pulses w response {r} n e = go (unpack_answer packed) (λ z. n (named packed ∙ z)) (e ∙ ap (λ (k : ℕ). packed_answer (bare k)) (named packed))
  where
    go : (k : ℕ) → (k ≡ 0 → ⊥) → r ≡ packed_answer (bare k)
        → Called (on_zero k (transacted (unpack_of packed).device array sent pulses (high w) response) (outcome_of (Refused k) (unpack_of packed).device array sent response)) packed r packed array response
    go zero n e = absurd (n refl)
    go (suc k) n e = record { answer = e; bytes = refl; memory = refl; line = refl }

-- the packing is that of a sound record
pub carried : (packed array sent : List ℕ) (pulses w : ℕ) (response : List ℕ) {r : ℕ} {packed' array' response' : List ℕ} {a : Answer} {next : Device} → (unpack_of packed).answer ≡ 0
    → Meets (transacted (unpack_of packed).device array sent pulses (high w) response) a next array' response' → r ≡ packed_answer a → packed' ≡ packed_by a.number next packed
    → Called (transacted_c packed array sent pulses w response) packed r packed' array' response'
unfolding transacted_c
carried packed array sent pulses w response {r} {packed'} {array'} {response'} {a} {next} z m e p =
    let y : unpack_answer packed ≡ 0 = sym (named packed) ∙ z in
    rw y
    (record { answer = e ∙ ap packed_answer m.answer; bytes = p ∙ ap (λ (x : Answer). packed_by x.number next packed) m.answer ∙ ap (λ (d : Device). packed_by (transacted (unpack_of packed).device array sent pulses (high w) response).answer.number d packed) m.device; memory = m.memory; line = m.line })

pub next-sound : (packed array sent : List ℕ) (pulses : ℕ) (w : Bool) (response : List ℕ) {a : Answer} {next : Device} {array' response' : List ℕ} → (unpack_of packed).answer ≡ 0
    → Meets (transacted (unpack_of packed).device array sent pulses w response) a next array' response' → sound next ≡ true
next-sound packed array sent pulses w response z m = rw m.device (stays-sound (unpack_of packed).device array sent pulses w response (unpacked-sound packed z))

-- the bits missing fit their place
pub few-missing : (d : Device) (array sent : List ℕ) (pulses : ℕ) (w : Bool) (response : List ℕ) {a : Answer} {next : Device} {array' response' : List ℕ}
    → Meets (transacted d array sent pulses w response) a next array' response' → a.missing ≤ most_missing
few-missing d array sent pulses w response m = rw m.answer (answer-few d array sent pulses w response).missing

-- the promise admits one outcome only
pub one-call : {o : Outcome} {packed packed' packed'' array' array'' response' response'' : List ℕ} {r s : ℕ} → Called o packed r packed' array' response' → Called o packed s packed'' array'' response''
    → (r ≡ s) × (packed' ≡ packed'') × (array' ≡ array'') × (response' ≡ response'')
one-call p q = (p.answer ∙ sym q.answer, p.bytes ∙ sym q.bytes, p.memory ∙ sym q.memory, p.line ∙ sym q.line)

-- ---- wait, power-up and power loss

-- as the code goes: what unpacking gave, and the call on it
module _ (call : Chip → Timed) (packed array : List ℕ) {came : Checked} (e : came ≡ unpack_of packed) where
  pub came_refused : {r : ℕ} → (came.answer ≡ 0 → ⊥) → r ≡ packed_answer (bare came.answer) → CalledOn (timed_c call packed array) packed r packed array
  unfolding timed_c
  came_refused {r} n h =
      let a = ap (λ (x : Checked). x.answer) e ∙ named packed in
      go (unpack_answer packed) (λ z. n (a ∙ z)) (h ∙ ap (λ (k : ℕ). packed_answer (bare k)) a)
    where
      c : Chip
      c = chip (unpack_of packed).device array

      go : (k : ℕ) → (k ≡ 0 → ⊥) → r ≡ packed_answer (bare k) → CalledOn (on_zero k (call c) (record { answer = k; chip = c })) packed r packed array
      go zero n h = absurd (n refl)
      go (suc k) n h = record { answer = h; bytes = refl; memory = refl }

  pub came-carried : Keeps call → {done : Checked} {r : ℕ} {packed' array' : List ℕ} → came.answer ≡ 0 → Handed (call (chip came.device array)) done array'
      → packed' ≡ on_zero done.answer (map_at (stored 0 (pack_of done.device)) packed) packed → r ≡ packed_answer (bare done.answer) → CalledOn (timed_c call packed array) packed r packed' array'
  unfolding timed_c
  came-carried keeps {done} {r} {packed'} {array'} z m p h =
      let x = came-in packed e z in
      let c = chip (unpack_of packed).device array in
      let g : Handed (call c) done array' = rw (← e) m in
      let s = settled packed e z g.answer g.device (λ y. rw g.device (keeps c y)) p h in
      rw x (record { answer = s.0; bytes = s.1; memory = g.memory })

pub one-call-on : {o : Timed} {packed packed' packed'' array' array'' : List ℕ} {r s : ℕ} → CalledOn o packed r packed' array' → CalledOn o packed s packed'' array'' → (r ≡ s) × (packed' ≡ packed'') × (array' ≡ array'')
one-call-on p q = (p.answer ∙ sym q.answer, p.bytes ∙ sym q.bytes, p.memory ∙ sym q.memory)

-- ---- delivery

-- another length of the packed bytes
pub another-length : (packed : List ℕ) (part : ℕ) (array : List ℕ) (p s b t : ℕ) {r : ℕ} → (length packed ≡ packed_length → ⊥) → r ≡ packed_answer (bare 8) → DeliveredC packed part array p s b t r packed array
unfolding delivery_c
another-length packed part array p s b t n e = record { answer = rw (ne_eqb (length packed) packed_length n) e; bytes = rw (ne_eqb (length packed) packed_length n); memory = rw (ne_eqb (length packed) packed_length n) }

-- bytes of a packing's length: what the delivery answers
pub delivers : (packed : List ℕ) (part : ℕ) (array : List ℕ) (p s b t : ℕ) {r : ℕ} {packed' array' : List ℕ} {c : Checked} → length packed ≡ packed_length → Delivered part array p s b t c array' → r ≡ packed_answer (bare c.answer)
    → packed' ≡ packed_by c.answer (delivered part p s b t) packed → DeliveredC packed part array p s b t r packed' array'
unfolding delivery_c
delivers packed part array p s b t {r} {packed'} {array'} {c} l d e q =
    let y : delivery_c packed part (length array) p s b t ≡ delivery_answer part (length array) p s b t = rw (eq-eqb (length packed) packed_length l) in
    let z : c.answer ≡ delivery_c packed part (length array) p s b t = d.answer ∙ sym y in
    record {
      answer = e ∙ ap (λ (k : ℕ). packed_answer (bare k)) z;
      bytes = q ∙ ap (λ (k : ℕ). packed_by k (delivered part p s b t) packed) z;
      memory = d.memory ∙ ap (λ (k : ℕ). on_zero k (map_at (put 255) array) array) (sym y);
    }

-- an executed delivery gives the record as delivered, which is sound
pub as-delivered : (part : ℕ) (array : List ℕ) (p s b t : ℕ) {c : Checked} {array' : List ℕ} → Delivered part array p s b t c array' → c.answer ≡ 0 → (c.device ≡ delivered part p s b t) × (sound c.device ≡ true)
unfolding delivery_answer
as-delivered part array p s b t {c} d z =
    let y : delivery_answer part (length array) p s b t ≡ 0 = sym d.answer ∙ z in
    let e : c.device ≡ delivered part p s b t = d.device ∙ ap (λ (k : ℕ). on_zero k (delivered part p s b t) zero_record) y in
    (e, rw e (all part (length array) p s b t y))
  where
    all : (part array p s b t : ℕ) → delivery_answer part array p s b t ≡ 0 → sound (delivered part p s b t) ≡ true
    all part array p s b t h =
        let one = past (not (known_part part)) 0 _ h in
        let two = past (not (eqb array (figures_of part).bytes)) 1 _ one.1 in
        let seven = past (not (ranged_of p && ranged_of s && ranged_of b && ranged_of t)) 6 _ two.1 in
        let q = both (ranged_of p && ranged_of s && ranged_of b) (ranged_of t) (not-false (ranged_of p && ranged_of s && ranged_of b && ranged_of t) seven.0) in
        let r = both (ranged_of p && ranged_of s) (ranged_of b) q.0 in
        let u = both (ranged_of p) (ranged_of s) r.0 in
        delivered-sound part p s b t (not-false (known_part part) one.0) u.0 u.1 r.1 q.1

pub one-delivery : {packed : List ℕ} {part : ℕ} {array : List ℕ} {p s b t q r : ℕ} {packed' packed'' array' array'' : List ℕ} → DeliveredC packed part array p s b t q packed' array' → DeliveredC packed part array p s b t r packed'' array''
    → (q ≡ r) × (packed' ≡ packed'') × (array' ≡ array'')
one-delivery p q = (p.answer ∙ sym q.answer, p.bytes ∙ sym q.bytes, p.memory ∙ sym q.memory)
