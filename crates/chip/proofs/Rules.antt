-- What holds of every transaction's outcome: what changes with answer 0 alone, what never changes, and which numbers there are.
-- Assumes nothing.
use mathlib.Core.Path.{◌≡◌, refl, sym, ◌∙◌}
use mathlib.Core.Bool.{Bool, true, false, cond, not, ◌&&◌, ◌||◌, true≢false}
use mathlib.Core.List.{List, [], ◌∷◌}
use mathlib.Core.Logic.{◌⊎◌, inl, inr}
use Prim.Native.Nat.{ℕ, zero, suc, ◌+◌, ◌-◌, ◌/◌, ◌%◌, ◌≤◌, ◌<◌}
use native.Mathlib.Omega.{arith}
use borrow.Author.Tests.{le-ltb, ltb-true, ltb-false}
use lib.Dec.{eqb, leb, ltb, lit<, lit≤}
use lib.Bits.{and_le_l}
use lib.ListN.{length, get_or, take, drop, get_or-eq_default}
use Rattle.slices.specs.Changed.{map_at, window, put}
use Rattle.slices.proofs.Maps.{length-map, get_or-map, get_d_any}
use Rattle.slices.proofs.Windows.{window-in, window-above}
use Rattle.memory.specs.Memory.{programmed, named, replaced, erased}
use Rattle.memory.specs.Missing.{most_missing}
use Rattle.memory.proofs.Unmet.{missing-few}
use Rattle.parts.specs.declared.Figures.{Figures}
use Rattle.parts.specs.Parts.{figures_of}
use Rattle.parts.proofs.Laws.{figures-ind}
use Rattle.device.specs.declared.Device.{Device}
use Rattle.device.specs.Device.{is_busy, is_deep, sound, status_byte}
use Rattle.device.specs.declared.cycle.Kind.{Kind}
use Rattle.device.specs.declared.cycle.Kind.TheVariants.{Idle, Page, Sector, All, Settings, PageWrite, PageErase, Subsector}
use Rattle.device.specs.Locks.{lock_of}
use Rattle.device.specs.Cycles.{uses_of, no_cycle, page_cycle, write_cycle, erase_cycle, all_cycle, settings_cycle, touched_in, touched}
use Rattle.device.proofs.Sound.{lock-few}
use Rattle.chip.specs.declared.table.Turn.{Turn}
use Rattle.chip.specs.declared.table.Turn.TheVariants.{Keep, Enable, Disable, Start, Sleep, Wake, Lock}
use Rattle.chip.specs.declared.table.Drive.{Drive}
use Rattle.chip.specs.declared.table.Drive.TheVariants.{Nothing, Identification, Status, Array, Signature, Register}
use Rattle.chip.specs.declared.table.Row.{Row}
use Rattle.chip.specs.declared.Answer.{Answer}
use Rattle.chip.specs.declared.answers.Verdict.{Verdict}
use Rattle.chip.specs.declared.answers.Verdict.TheVariants.{Refused, Ignored, Executed}
use Rattle.chip.specs.Table.{address_of, row_in, on_start}
use Rattle.chip.specs.Answers.{host_number, writes_settings, guarded, frozen, as_needed, chip_number}
use Rattle.chip.specs.Line.{Driven, on_line, kth, identification, by_row, heard_row, driven, lined}
use Rattle.chip.specs.Change.{cycle_of, changed, missing_in, missing_of, turned}
use Rattle.chip.proofs.Rows.{start-ind}
use Rattle.chip.specs.Outcome.{Outcome, bare, outcome_of, transacted}
use Rattle.chip.proofs.Verdicts.{Host, Taken, Decision, refuses, ignores, executes, verdict-is, not-refused, not-ignored, needs}
use Rattle.slices.proofs.Choices.{cond_ind}
use Rattle.chip.proofs.Lines.{first-soon}
use Rattle.chip.proofs.Laws.{count-le}
use Rattle.chip.proofs.Records.{turn-law, turned-sound, SameMake, SameSettings, turned-make, turned-settings, turned-writes}

-- ---- the numbers

-- whether a number stands in a list
abbrev pub listed : ℕ → List ℕ → Bool
listed k [] = false
listed k (x ∷ xs) = eqb k x || listed k xs

-- the numbers that a transaction can answer
abbrev pub numbers : List ℕ
numbers = 0 ∷ 2 ∷ 3 ∷ 4 ∷ 5 ∷ 6 ∷ 11 ∷ 12 ∷ 13 ∷ 14 ∷ 15 ∷ 16 ∷ 17 ∷ 18 ∷ 19 ∷ []

-- a number of the host side is at most 8
abbrev OfHost : ℕ → Type 0
OfHost k = (listed k numbers ≡ true) × (k ≤ 8)

host-number : (d : Device) (array n pulses response : ℕ) → OfHost (host_number d array n pulses response)
unfolding host_number
host-number d array n pulses response =
    cond_ind OfHost (not (sound d)) (refl, lit≤ tt)
    (cond_ind OfHost (not (eqb array (figures_of d.part).bytes)) (refl, lit≤ tt)
    (cond_ind OfHost (ltb 65536 n) (refl, lit≤ tt)
    (cond_ind OfHost (ltb 7 pulses) (refl, lit≤ tt) (cond_ind OfHost (ltb response n) (refl, lit≤ tt) (refl, lit≤ tt)))))

-- a number of the chip is at most 19, and at least 11 where it is not 0
abbrev OfChip : ℕ → Type 0
OfChip k = (listed k numbers ≡ true) × ((k ≡ 0 → ⊥) → 11 ≤ k) × (k ≤ 19)

chip-number : (d : Device) (r : Row) (n pulses : ℕ) (w : Bool) (at : ℕ) → OfChip (chip_number d r n pulses w at)
unfolding chip_number
chip-number d r n pulses w at =
    cond_ind OfChip (eqb n 0) (refl, λ h. lit≤ tt, lit≤ tt)
    (cond_ind OfChip (not r.known) (refl, λ h. lit≤ tt, lit≤ tt)
    (cond_ind OfChip (is_busy d.mode && not r.busy) (refl, λ h. lit≤ tt, lit≤ tt)
    (cond_ind OfChip (is_deep d.mode && not r.deep) (refl, λ h. lit≤ tt, lit≤ tt)
    (cond_ind OfChip (not (as_needed r n pulses)) (refl, λ h. lit≤ tt, lit≤ tt)
    (cond_ind OfChip (r.latch && not d.latch) (refl, λ h. lit≤ tt, lit≤ tt)
    (cond_ind OfChip (guarded r.turn (figures_of d.part) d at) (refl, λ h. lit≤ tt, lit≤ tt)
    (cond_ind OfChip (writes_settings r.turn && d.srwd && not w) (refl, λ h. lit≤ tt, lit≤ tt)
    (cond_ind OfChip (frozen r.turn (figures_of d.part) d at) (refl, λ h. lit≤ tt, lit≤ tt) (refl, λ h. absurd (h refl), lit≤ tt)))))))))

-- what an answer's numbers are at most: the number 19, the first driven position 5, the count 65,536, the bits missing 2,048
pub record Few (a : Answer) : Type 0 where
  pub number : a.number ≤ 19
  pub first : a.first ≤ 5
  pub count : a.count ≤ 65536
  pub missing : a.missing ≤ most_missing

missing-in-few : (k : Kind) (at : ℕ) (sent array : List ℕ) → missing_in k at sent array ≤ most_missing
missing-in-few Idle at sent array = lit≤ tt
missing-in-few Page at sent array = missing-few at (drop 4 sent) array
missing-in-few Sector at sent array = lit≤ tt
missing-in-few All at sent array = lit≤ tt
missing-in-few Settings at sent array = lit≤ tt
missing-in-few PageWrite at sent array = lit≤ tt
missing-in-few PageErase at sent array = lit≤ tt
missing-in-few Subsector at sent array = lit≤ tt

missing-of-few : (t : Turn) (at : ℕ) (sent array : List ℕ) → missing_of t at sent array ≤ most_missing
unfolding missing_of
missing-of-few t at sent array = start-ind (λ (n : ℕ). n ≤ most_missing) t (λ k. missing_in k at sent array) 0 (λ k. missing-in-few k at sent array) (lit≤ tt)

-- ---- bytes

-- every element is below 256
abbrev pub Bytes : List ℕ → Type 0
Bytes xs = (i : ℕ) → i < length xs → get_or xs i 0 < 256

map-bytes : (f : ℕ → ℕ → ℕ) (xs : List ℕ) → ((i x : ℕ) → x < 256 → f i x < 256) → Bytes xs → Bytes (map_at f xs)
map-bytes f xs h b i lt =
    let k : i < length xs = rw (length-map f xs) at lt in
    rw (get_or-map f xs i 0 k) (h i (get_or xs i 0) (b i k))

-- a completed cycle leaves bytes bytes; of a page write, where its slots are
pub touched-byte : (k : Kind) (f : Figures) (at : ℕ) (slots : List ℕ) (n i x : ℕ) → ((uses_of k).named ≡ true → (j : ℕ) → get_or slots j 0 < 256) → x < 256 → touched_in k f at slots n i x < 256
unfolding programmed replaced erased
touched-byte Idle f at slots n i x b h = h
touched-byte Page f at slots n i x b h = cond_ind (λ (y : ℕ). y < 256) (eqb (i / 256) (at / 256)) (omega (arith, and_le_l x (get_or slots (i % 256) 0))) h
touched-byte Sector f at slots n i x b h = cond_ind (λ (y : ℕ). y < 256) (eqb (i / f.sector_bytes) (at / f.sector_bytes)) (lit< tt) h
touched-byte All f at slots n i x b h = lit< tt
touched-byte Settings f at slots n i x b h = h
touched-byte PageWrite f at slots n i x b h = cond_ind (λ (y : ℕ). y < 256) (eqb (i / 256) (at / 256)) (cond_ind (λ (y : ℕ). y < 256) (named at n i) (b refl (i % 256)) h) h
touched-byte PageErase f at slots n i x b h = cond_ind (λ (y : ℕ). y < 256) (eqb (i / 256) (at / 256)) (lit< tt) h
touched-byte Subsector f at slots n i x b h = cond_ind (λ (y : ℕ). y < 256) (eqb (i / f.subsector_bytes) (at / f.subsector_bytes)) (lit< tt) h

-- the cycle that an instruction starts names bytes where its kind does
cycle-named : (k : Kind) (f : Figures) (at : ℕ) (sent : List ℕ) → (uses_of (cycle_of k f at sent).kind).named ≡ (uses_of k).named
unfolding cycle_of no_cycle page_cycle write_cycle erase_cycle all_cycle settings_cycle
cycle-named Idle f at sent = refl
cycle-named Page f at sent = refl
cycle-named Sector f at sent = refl
cycle-named All f at sent = refl
cycle-named Settings f at sent = refl
cycle-named PageWrite f at sent = refl
cycle-named PageErase f at sent = refl
cycle-named Subsector f at sent = refl

-- an instruction that names bytes starts a page write
abbrev pub names_bytes : Turn → Bool
names_bytes t = on_start t (λ k. (uses_of k).named) false

-- bytes stay bytes under what an instruction starts that names none
pub changed-byte : (t : Turn) (f : Figures) (at : ℕ) (sent : List ℕ) (i x : ℕ) → names_bytes t ≡ false → x < 256 → changed t f at sent i x < 256
unfolding changed touched
changed-byte t f at sent i x = go t
  where
    kept : (k : Kind) → (uses_of k).named ≡ false → (uses_of (cycle_of k f at sent).kind).named ≡ false
    kept k e = cycle-named k f at sent ∙ e

    go : (t : Turn) → names_bytes t ≡ false → x < 256 → changed t f at sent i x < 256
    go Keep e h = h
    go Enable e h = h
    go Disable e h = h
    go (Start k) e h = let c = cycle_of k f at sent in touched-byte c.kind f c.address c.slots c.named i x (λ q. absurd (true≢false (sym q ∙ kept k e))) h
    go Sleep e h = h
    go Wake e h = h
    go Lock e h = h

-- a part's identification and signature are bytes
pub record Figured (f : Figures) : Type 0 where
  pub maker : f.maker < 256
  pub «memory-type» : f.memory_type < 256
  pub capacity : f.capacity < 256
  pub signature : f.signature < 256

figured : (p : ℕ) → Figured (figures_of p)
figured p =
    figures-ind Figured (λ f h. record { maker = lit< tt; «memory-type» = lit< tt; capacity = lit< tt; signature = h.signature })
    (record { maker = lit< tt; «memory-type» = lit< tt; capacity = lit< tt; signature = lit< tt })
    (record { maker = lit< tt; «memory-type» = lit< tt; capacity = lit< tt; signature = lit< tt })
    (record { maker = lit< tt; «memory-type» = lit< tt; capacity = lit< tt; signature = lit< tt })
    (record { maker = lit< tt; «memory-type» = lit< tt; capacity = lit< tt; signature = lit< tt })
    (record { maker = lit< tt; «memory-type» = lit< tt; capacity = lit< tt; signature = lit< tt })
    (record { maker = lit< tt; «memory-type» = lit< tt; capacity = lit< tt; signature = lit< tt })
    p

identification-byte : (f : Figures) (k : ℕ) → Figured f → identification f k < 256
identification-byte f zero h = h.maker
identification-byte f (suc zero) h = h.«memory-type»
identification-byte f (suc (suc zero)) h = h.capacity
identification-byte f (suc (suc (suc k))) h = lit< tt

-- the status byte is a byte
pub status-byte : (d : Device) → status_byte d < 256
unfolding status_byte
status-byte d =
    let s : cond d.srwd 128 0 ≤ 128 = cond_ind (λ (n : ℕ). n ≤ 128) d.srwd (lit≤ tt) (lit≤ tt) in
    let l : cond d.latch 2 0 ≤ 2 = cond_ind (λ (n : ℕ). n ≤ 2) d.latch (lit≤ tt) (lit≤ tt) in
    let b : cond (is_busy d.mode) 1 0 ≤ 1 = cond_ind (λ (n : ℕ). n ≤ 1) (is_busy d.mode) (lit≤ tt) (lit≤ tt) in
    omega arith

get_or-byte : (xs : List ℕ) (i : ℕ) → Bytes xs → get_or xs i 255 < 256
get_or-byte xs i b = go (ltb i (length xs)) refl
  where
    go : (t : Bool) → ltb i (length xs) ≡ t → get_or xs i 255 < 256
    go true e = let k = ltb-true i (length xs) e in rw (get_d_any xs i 255 0 k) (b i k)
    go false e = rw (get_or-eq_default xs 255 (ltb-false i (length xs) e)) (lit< tt)

kth-byte : (dr : Drive) (f : Figures) (s : ℕ) (locks array : List ℕ) (at k : ℕ) → Figured f → s < 256 → lock_of f locks at < 256 → Bytes array → on_line (kth dr f s locks array at k) < 256
kth-byte Nothing f s locks array at k h l r b = lit< tt
kth-byte Identification f s locks array at k h l r b = identification-byte f k h
kth-byte Status f s locks array at k h l r b = l
kth-byte Array f s locks array at k h l r b = get_or-byte array ((at + k) % length array) b
kth-byte Signature f s locks array at k h l r b = h.signature
kth-byte Register f s locks array at k h l r b = r

-- what is driven is a byte
pub driven-byte : (d : Device) (array before : List ℕ) → sound d ≡ true → Bytes array → on_line (driven d array before) < 256
unfolding driven by_row
driven-byte d array before sure b =
    let at = address_of (figures_of d.part) before in
    let few : lock_of (figures_of d.part) d.locks at < 256 = omega (arith, lock-few d at sure) in
    cond_ind (λ (x : Driven). on_line x < 256) (leb (heard_row d before).from (length before))
    (kth-byte (heard_row d before).drive (figures_of d.part) (status_byte d) d.locks array at (length before - (heard_row d before).from) (figured d.part) (status-byte d) few b)
    (lit< tt)

-- an executed instruction's answer is 0
pub executed-one : {A B : Type 0} → A ⊎ B → A ⊎ (B × (◌≡◌ {A = ℕ} 0 0))
executed-one (inl a) = inl a
executed-one (inr b) = inr (b, refl)

-- ---- the outcome

module _ (d : Device) (array sent : List ℕ) (pulses : ℕ) (w : Bool) (response : List ℕ) where
  -- the outcome, the number of the host and the number of the chip
  abbrev pub out : Outcome
  out = transacted d array sent pulses w response

  abbrev pub host : ℕ
  host = host_number d (length array) (length sent) pulses (length response)

  abbrev pub chip : ℕ
  chip = chip_number d (row_in d sent) (length sent) pulses w (address_of (figures_of d.part) sent)

  -- what holds of each of the three outcomes holds of the outcome
  pub outcome-ind : (P : Outcome → Type 0) → ((host ≡ 0 → ⊥) → P (outcome_of (Refused host) d array sent response))
      → (Host d (length array) (length sent) pulses (length response) → (chip ≡ 0 → ⊥) → P (outcome_of (Ignored chip) d array sent response))
      → (Host d (length array) (length sent) pulses (length response) → Taken d (row_in d sent) (length sent) pulses w (address_of (figures_of d.part) sent) → P (outcome_of Executed d array sent response))
      → P out
  unfolding transacted
  outcome-ind P r i e = go (verdict-is d (length array) sent pulses w (length response))
    where
      go : {v : Verdict} → Decision host chip v → P (outcome_of v d array sent response)
      go (refuses a) = r a
      go (ignores a b) = i (not-refused d (length array) (length sent) pulses (length response) a) b
      go (executes a b) = e (not-refused d (length array) (length sent) pulses (length response) a) (not-ignored d (row_in d sent) (length sent) pulses w (address_of (figures_of d.part) sent) b)

  -- the answer is one of the numbers
  pub number-is-listed : listed out.answer.number numbers ≡ true
  unfolding outcome_of
  number-is-listed =
      outcome-ind (λ (o : Outcome). listed o.answer.number numbers ≡ true)
      (λ a. (host-number d (length array) (length sent) pulses (length response)).0)
      (λ h b. (chip-number d (row_in d sent) (length sent) pulses w (address_of (figures_of d.part) sent)).0) (λ h t. refl)

  -- where the host side does not refuse, it is 0 or 11 to 19
  pub chip-answers : host ≡ 0 → (out.answer.number ≡ 0) ⊎ ((11 ≤ out.answer.number) × (out.answer.number ≤ 19))
  unfolding outcome_of
  chip-answers z =
      outcome-ind (λ (o : Outcome). (o.answer.number ≡ 0) ⊎ ((11 ≤ o.answer.number) × (o.answer.number ≤ 19))) (λ a. absurd (a z))
      (λ h b. let k = chip-number d (row_in d sent) (length sent) pulses w (address_of (figures_of d.part) sent) in inr (k.1 b, k.2)) (λ h t. inl refl)

  -- the answer's numbers are few
  pub answer-few : Few out.answer
  unfolding outcome_of
  answer-few =
      outcome-ind (λ (o : Outcome). Few o.answer)
      (λ a. record { number = omega (arith, (host-number d (length array) (length sent) pulses (length response)).1); first = lit≤ tt; count = lit≤ tt; missing = lit≤ tt })
      (λ h b. record { number = (chip-number d (row_in d sent) (length sent) pulses w (address_of (figures_of d.part) sent)).2; first = lit≤ tt; count = lit≤ tt; missing = lit≤ tt })
      (λ h t. record { number = lit≤ tt; first = first-soon d array sent; count = omega (arith, count-le d array sent, h.short); missing = missing-of-few (row_in d sent).turn (address_of (figures_of d.part) sent) sent array })

  -- with any other answer than 0 the record and the array stay, nothing is driven and no bits are missing
  pub only-zero-changes : (out.answer.number ≡ 0 → ⊥) → (out.device ≡ d) × (out.array ≡ array) × (out.answer ≡ bare out.answer.number)
  unfolding outcome_of
  only-zero-changes =
      outcome-ind (λ (o : Outcome). (o.answer.number ≡ 0 → ⊥) → (o.device ≡ d) × (o.array ≡ array) × (o.answer ≡ bare o.answer.number))
      (λ a n. (refl, refl, refl)) (λ h b n. (refl, refl, refl)) (λ h t n. absurd (n refl))

  -- with 1 to 8 the response stays too
  pub host-leaves : (out.answer.number ≡ 0 → ⊥) → out.answer.number ≤ 8 → out.response ≡ response
  unfolding outcome_of
  host-leaves =
      outcome-ind (λ (o : Outcome). (o.answer.number ≡ 0 → ⊥) → o.answer.number ≤ 8 → o.response ≡ response)
      (λ a n l. refl)
      (λ h b n l. let k = (chip-number d (row_in d sent) (length sent) pulses w (address_of (figures_of d.part) sent)).1 b in absurd (omega arith))
      (λ h t n l. absurd (n refl))

  -- with 11 to 19 the first n response bytes are FF
  pub chip-blanks : 11 ≤ out.answer.number → (i : ℕ) → i < length sent → get_or out.response i 0 ≡ 255
  unfolding outcome_of
  chip-blanks =
      outcome-ind (λ (o : Outcome). 11 ≤ o.answer.number → (i : ℕ) → i < length sent → get_or o.response i 0 ≡ 255)
      (λ a l i lt. let k = (host-number d (length array) (length sent) pulses (length response)).1 in absurd (omega arith))
      (λ h b l i lt.
      get_or-map (window 0 (length sent) (put 255)) response i 0 (omega (arith, h.room))
      ∙ window-in 0 (length sent) (put 255) i (get_or response i 0) (omega arith) lt)
      (λ h t l i lt. absurd (omega arith))

  -- bytes from n on are untouched
  pub rest-stays : (i : ℕ) → length sent ≤ i → get_or out.response i 0 ≡ get_or response i 0
  unfolding outcome_of lined
  rest-stays i le =
      outcome-ind (λ (o : Outcome). get_or o.response i 0 ≡ get_or response i 0) (λ a. refl)
      (λ h b. beyond (window 0 (length sent) (put 255)) (λ x. window-above 0 (length sent) (put 255) i x le))
      (λ h t. beyond (lined d array sent) (λ x. rw (le-ltb i (length sent) le)))
    where
      beyond : (f : ℕ → ℕ → ℕ) → ((x : ℕ) → f i x ≡ x) → get_or (map_at f response) i 0 ≡ get_or response i 0
      beyond f e = go (ltb i (length response)) refl
        where
          go : (b : Bool) → ltb i (length response) ≡ b → get_or (map_at f response) i 0 ≡ get_or response i 0
          go true q = get_or-map f response i 0 (ltb-true i (length response) q) ∙ e (get_or response i 0)
          go false q =
              let k = ltb-false i (length response) q in
              let l : length (map_at f response) ≤ i = rw (length-map f response) k in
              get_or-eq_default (map_at f response) 0 l ∙ sym (get_or-eq_default response 0 k)

  -- no transaction changes the array
  pub array-stays : out.array ≡ array
  unfolding outcome_of
  array-stays = outcome-ind (λ (o : Outcome). o.array ≡ array) (λ a. refl) (λ h b. refl) (λ h t. refl)

  -- the response keeps its length

  pub response-length : length out.response ≡ length response
  unfolding outcome_of
  response-length = outcome-ind (λ (o : Outcome). length o.response ≡ length response) (λ a. refl) (λ h b. length-map _ response) (λ h t. length-map _ response)

  -- bytes stay bytes
  pub response-bytes : Bytes array → Bytes response → Bytes out.response
  unfolding outcome_of lined window
  response-bytes a b =
      outcome-ind (λ (o : Outcome). Bytes o.response) (λ n. b)
      (λ h n. map-bytes (window 0 (length sent) (put 255)) response (λ i x l. cond_ind (λ (y : ℕ). y < 256) (leb 0 i && ltb i (length sent)) (lit< tt) l) b)
      (λ h t. map-bytes (lined d array sent) response (λ i x l. cond_ind (λ (y : ℕ). y < 256) (ltb i (length sent)) (driven-byte d array (take i sent) h.sound a) l) b)

  -- a sound record stays sound
  pub stays-sound : sound d ≡ true → sound out.device ≡ true
  unfolding outcome_of
  stays-sound s =
      outcome-ind (λ (o : Outcome). sound o.device ≡ true) (λ a. s) (λ h b. s)
      (λ h t.
      turned-sound (row_in d sent).turn d sent (get_or sent 0 0) (row_in d sent).least (row_in d sent).busy (turn-law (figures_of d.part) (get_or sent 0 0)) (needs (row_in d sent) (length sent) pulses t.needed).least t.busy s)

  -- no transaction changes BP or SRWD
  pub settings-stay : SameSettings d out.device
  unfolding outcome_of
  settings-stay =
      outcome-ind (λ (o : Outcome). SameSettings d o.device) (λ a. record { bp = refl; srwd = refl }) (λ h b. record { bp = refl; srwd = refl })
      (λ h t. turned-settings (row_in d sent).turn (figures_of d.part) d (address_of (figures_of d.part) sent) sent)

  -- only an executed WRSR starts a write of them
  pub only-wrsr-writes : (uses_of out.device.cycle.kind).settings ≡ true → ((uses_of d.cycle.kind).settings ≡ true) ⊎ ((get_or sent 0 0 ≡ 0x01) × (out.answer.number ≡ 0))
  unfolding outcome_of
  only-wrsr-writes =
      outcome-ind (λ (o : Outcome). (uses_of o.device.cycle.kind).settings ≡ true → ((uses_of d.cycle.kind).settings ≡ true) ⊎ ((get_or sent 0 0 ≡ 0x01) × (o.answer.number ≡ 0))) (λ a e. inl e) (λ h b e. inl e)
      (λ h t e. executed-one (turned-writes (row_in d sent).turn (figures_of d.part) d (address_of (figures_of d.part) sent) sent (get_or sent 0 0) (row_in d sent).least (row_in d sent).busy (turn-law (figures_of d.part) (get_or sent 0 0)) e))

  -- no call changes the part or a duration
  pub make-stays : SameMake d out.device
  unfolding outcome_of turned
  make-stays =
      outcome-ind (λ (o : Outcome). SameMake d o.device) (λ a. turned-make Keep (figures_of d.part) d 0 sent) (λ h b. turned-make Keep (figures_of d.part) d 0 sent)
      (λ h t. turned-make (row_in d sent).turn (figures_of d.part) d (address_of (figures_of d.part) sent) sent)
