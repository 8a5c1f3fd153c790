-- The response line: what is driven during a byte is fixed by the bytes before it, and the answer's first and count say where.
-- Assumes nothing.
use mathlib.Core.Path.{◌≡◌, refl, sym, ap, ◌∙◌}
use mathlib.Core.Bool.{Bool, true, false, cond, not, ◌&&◌, ◌||◌, false≢true}
use mathlib.Core.List.{List, [], ◌∷◌}
use mathlib.Core.Logic.{◌⊎◌, inl, inr}
use Prim.Native.Nat.{ℕ, zero, suc, ◌+◌, ◌-◌, ◌≤◌, ◌<◌}
use native.Mathlib.Nat.{le_refl}
use native.Mathlib.Omega.{arith}
use borrow.Author.Tests.{eqb-true, eqb-false, leb-true, leb-false, ltb-true, ltb-false, eq-eqb, ne_eqb, le-leb, lt-leb, lt-ltb}
use lib.Dec.{eqb, leb, ltb, lit≤}
use lib.ListN.{length, get_or, take}
use lib.Seq.{get_or-take, length-take-le}
use Rattle.slices.proofs.Choices.{cond_ind, both}
use Rattle.slices.specs.Changed.{map_at, window, put, sum_at}
use Rattle.slices.proofs.Maps.{get_or-map}
use Rattle.slices.proofs.Windows.{window-in}
use Rattle.slices.proofs.Sums.{sum-none, sum-count}
use Rattle.parts.specs.declared.Figures.{Figures}
use Rattle.parts.specs.Parts.{figures_of}
use Rattle.device.specs.declared.Device.{Device}
use Rattle.device.specs.Cycles.{uses_of}
use Rattle.device.specs.Device.{is_busy, is_deep, status_byte}
use Rattle.device.specs.declared.cycle.Kind.{Kind}
use Rattle.chip.specs.declared.table.Turn.{Turn}
use Rattle.chip.specs.declared.table.Turn.TheVariants.{Keep}
use Rattle.chip.specs.declared.table.Drive.{Drive}
use Rattle.chip.specs.declared.table.Drive.TheVariants.{Nothing, Identification, Status, Array, Signature, Register}
use Rattle.chip.specs.declared.table.Row.{Row}
use Rattle.chip.specs.declared.line.Span.{Span}
use Rattle.chip.specs.declared.answers.Verdict.{Verdict}
use Rattle.chip.specs.Table.{longest, order, write, unknown, row_of, address_of, row_in, on_start}
use Rattle.chip.specs.Answers.{host_number, guarded_in, writes_lock, as_needed, chip_number}
use Rattle.chip.proofs.Rows.{rows-ind}
use Rattle.chip.specs.Line.{Driven, silent, drives, on_line, kth, by_row, heard, heard_row, driven, lined, driving_at, first_from, first_of, count_of, no_span, from_on, span_of}
use Rattle.chip.specs.Outcome.{Outcome, outcome_of, transacted}
use Rattle.chip.proofs.Verdicts.{Host, Decision, refuses, ignores, executes, verdict-is, not-refused}

-- ---- what every row of the table has

-- the earliest position: after the code, and for an array byte or a lock register after the address
abbrev pub earliest : Drive → ℕ
earliest Nothing = 1
earliest Identification = 1
earliest Status = 1
earliest Array = 4
earliest Signature = 1
earliest Register = 4

-- a row that drives needs no latch, no exact n and no clock without further pulses, starts no cycle, writes no lock register, and needs no byte beyond its first driven position
pub record Reads (r : Row) : Type 0 where
  pub enough : r.least ≤ r.from
  pub unbounded : r.most ≡ longest
  pub pulsed : r.no_pulses ≡ false
  pub unlatched : r.latch ≡ false
  pub startless : (by : Kind → Bool) (other : Bool) → on_start r.turn by other ≡ other
  pub lockless : writes_lock r.turn ≡ false

pub record RowLaws (r : Row) : Type 0 where
  pub coded : 1 ≤ r.from
  pub soon : r.from ≤ 5
  pub late : earliest r.drive ≤ r.from
  pub reads : (r.drive ≡ Nothing) ⊎ Reads r

quiet-laws : (r : Row) → r.drive ≡ Nothing → 1 ≤ r.from → r.from ≤ 5 → RowLaws r
quiet-laws r e h k = record { coded = h; soon = k; late = rw e h; reads = inl e }

reading-laws : (r : Row) → 1 ≤ r.from → r.from ≤ 5 → earliest r.drive ≤ r.from → Reads r → RowLaws r
reading-laws r c m l e = record { coded = c; soon = m; late = l; reads = inr e }

unknown-laws : RowLaws unknown
unknown-laws = quiet-laws unknown refl (lit≤ tt) (lit≤ tt)

order-laws : (t : Turn) → RowLaws (order t)
order-laws t = quiet-laws (order t) refl (lit≤ tt) (lit≤ tt)

write-laws : (n m : ℕ) (t : Turn) → RowLaws (write n m t)
write-laws n m t = quiet-laws (write n m t) refl (lit≤ tt) (lit≤ tt)

-- a reading that keeps the record
keep-laws : (r : Row) → r.turn ≡ Keep → r.most ≡ longest → r.no_pulses ≡ false → r.latch ≡ false → r.least ≤ r.from → 1 ≤ r.from → r.from ≤ 5 → earliest r.drive ≤ r.from → RowLaws r
keep-laws r t m p l n c s e =
    reading-laws r c s e (record { enough = n; unbounded = m; pulsed = p; unlatched = l; startless = λ by other. rw t refl; lockless = rw t refl })

pub row_laws : (f : Figures) (code : ℕ) → RowLaws (row_of f code)
row_laws f =
    rows-ind (λ code r. RowLaws r) f (order-laws _) (order-laws _)
    (λ e. keep-laws _ refl refl refl refl (lit≤ tt) (lit≤ tt) (lit≤ tt) (lit≤ tt))
    (keep-laws _ refl refl refl refl (lit≤ tt) (lit≤ tt) (lit≤ tt) (lit≤ tt))
    (write-laws _ _ _)
    (keep-laws _ refl refl refl refl (lit≤ tt) (lit≤ tt) (lit≤ tt) (lit≤ tt))
    (keep-laws _ refl refl refl refl (lit≤ tt) (lit≤ tt) (lit≤ tt) (lit≤ tt))
    (write-laws _ _ _) (write-laws _ _ _) (write-laws _ _ _) (λ e. order-laws _)
    (λ e. reading-laws _ (lit≤ tt) (lit≤ tt) (lit≤ tt) (record { enough = lit≤ tt; unbounded = refl; pulsed = refl; unlatched = refl; startless = λ by other. refl; lockless = refl }))
    (λ e. quiet-laws _ refl (lit≤ tt) (lit≤ tt)) (λ e. write-laws _ _ _) (λ e. write-laws _ _ _) (λ e. write-laws _ _ _) (λ e. write-laws _ _ _)
    (λ e. keep-laws _ refl refl refl refl (lit≤ tt) (lit≤ tt) (lit≤ tt) (lit≤ tt))
    (λ code. unknown-laws)

-- a row that needs the latch, no further pulses or an exact n drives nothing
pub demanding : (f : Figures) (code : ℕ) → (row_of f code).latch || (row_of f code).no_pulses || ltb (row_of f code).most longest ≡ true → (row_of f code).drive ≡ Nothing
demanding f code h = go (row_of f code) (row_laws f code).reads h
  where
    go : (r : Row) → (r.drive ≡ Nothing) ⊎ Reads r → r.latch || r.no_pulses || ltb r.most longest ≡ true → r.drive ≡ Nothing
    go r (inl e) h = e
    go r (inr e) h = absurd (false≢true (sym (rw (e.unlatched, e.pulsed, e.unbounded)) ∙ h))

-- so of the row that the chip goes by
pub heard-laws : (d : Device) (before : List ℕ) → RowLaws (heard_row d before)
unfolding heard_row
heard-laws d before = cond_ind RowLaws (heard d (row_in d before)) (row_laws (figures_of d.part) (get_or before 0 0)) unknown-laws

-- ---- the bytes before tell the row and the address

module _ (d : Device) (array sent : List ℕ) where
  same_row : (i : ℕ) → 0 < i → heard_row d (take i sent) ≡ heard_row d sent
  unfolding heard_row
  same_row i h =
      ap (λ (b : ℕ). cond (heard d (row_of (figures_of d.part) b)) (row_of (figures_of d.part) b) unknown) (get_or-take i sent 0 0 h)

  same_address : (f : Figures) (i : ℕ) → 4 ≤ i → address_of f (take i sent) ≡ address_of f sent
  unfolding address_of
  same_address f i h = rw (get_or-take i sent 1 0 (omega arith), get_or-take i sent 2 0 (omega arith), get_or-take i sent 3 0 (omega arith))

  same-kth : (dr : Drive) (f : Figures) (s i k : ℕ) → earliest dr ≤ i → kth dr f s d.locks array (address_of f (take i sent)) k ≡ kth dr f s d.locks array (address_of f sent) k
  same-kth Nothing f s i k h = refl
  same-kth Identification f s i k h = refl
  same-kth Status f s i k h = refl
  same-kth Array f s i k h = rw (same_address f i h)
  same-kth Signature f s i k h = refl
  same-kth Register f s i k h = rw (same_address f i h)

  -- from the row's first byte on
  pub driven-from : (i : ℕ) → i ≤ length sent → (heard_row d sent).from ≤ i
      → driven d array (take i sent) ≡ kth (heard_row d sent).drive (figures_of d.part) (status_byte d) d.locks array (address_of (figures_of d.part) sent) (i - (heard_row d sent).from)
  unfolding driven by_row
  driven-from i le h =
      let r = heard_row d sent in
      let f = figures_of d.part in
      let s = status_byte d in
      let pos : 0 < i = omega (arith, (heard-laws d sent).coded) in
      ap (λ (x : Row). by_row x f s d.locks array (take i sent)) (same_row i pos)
      ∙ (ap (λ (n : ℕ). cond (leb r.from n) (kth r.drive f s d.locks array (address_of f (take i sent)) (n - r.from)) silent) (length-take-le i sent le)
      ∙ (ap (λ (b : Bool). cond b (kth r.drive f s d.locks array (address_of f (take i sent)) (i - r.from)) silent) (le-leb r.from i h)
      ∙ same-kth r.drive f s i (i - r.from) (omega (arith, (heard-laws d sent).late))))

  too-soon : (r : Row) (f : Figures) (s : ℕ) (before : List ℕ) → length before < r.from → by_row r f s d.locks array before ≡ silent
  unfolding by_row
  too-soon r f s before h = rw (lt-leb r.from (length before) h)

  -- before it
  pub driven-before : (i : ℕ) → i ≤ length sent → i < (heard_row d sent).from → driven d array (take i sent) ≡ silent
  unfolding driven
  driven-before zero le h = too-soon (heard_row d []) (figures_of d.part) (status_byte d) [] (heard-laws d []).coded
  driven-before (suc i) le h =
      let l : length (take (suc i) sent) ≡ suc i = length-take-le (suc i) sent le in
      ap (λ (x : Row). by_row x (figures_of d.part) (status_byte d) d.locks array (take (suc i) sent)) (same_row (suc i) (omega arith))
      ∙ too-soon (heard_row d sent) (figures_of d.part) (status_byte d) (take (suc i) sent) (rw l h)

  -- a row that drives nothing
  pub driven-nothing : (heard_row d sent).drive ≡ Nothing → (i : ℕ) → i ≤ length sent → driven d array (take i sent) ≡ silent
  driven-nothing e i le = go (leb (heard_row d sent).from i) refl
    where
      go : (b : Bool) → leb (heard_row d sent).from i ≡ b → driven d array (take i sent) ≡ silent
      go true q = driven-from i le (leb-true (heard_row d sent).from i q) ∙ rw e
      go false q = driven-before i le (leb-false (heard_row d sent).from i q)

-- what is driven during byte i depends on the bytes before it alone
pub line-early : (d : Device) (array sent sent' : List ℕ) (i x : ℕ) → i < length sent → i < length sent' → take i sent ≡ take i sent' → lined d array sent i x ≡ lined d array sent' i x
unfolding lined
line-early d array sent sent' i x h k e = rw (lt-ltb i (length sent) h, lt-ltb i (length sent') k, e)

-- ---- first and count

first-none : (g : ℕ → ℕ) (k : ℕ) (xs : List ℕ) → ((i : ℕ) → k ≤ i → i < k + length xs → g i ≡ 0) → first_from g k xs ≡ 0
first-none g k [] h = refl
first-none g k (x ∷ xs) h =
    rw (eq-eqb (g k) 0 (h k (omega arith) (omega arith))) (first-none g (suc k) xs (λ i l m. h i (omega arith) (omega arith)))

first-at : (g : ℕ → ℕ) (k from : ℕ) (xs : List ℕ) → k ≤ from → from < k + length xs → ((i : ℕ) → i < from → g i ≡ 0) → g from ≡ 1 → first_from g k xs ≡ from
first-at g k from [] h l z o = absurd (gone h l)
  where
    gone : k ≤ from → from < k + 0 → ⊥
    gone h l = omega arith
first-at g k from (x ∷ xs) h l z o = go (eqb k from) refl (λ lt. first-at g (suc k) from xs (omega arith) (omega arith) z o)
  where
    differ : ◌≡◌ {A = ℕ} 0 1 → ⊥
    differ e = omega arith

    go : (b : Bool) → eqb k from ≡ b → (k < from → first_from g (suc k) xs ≡ from) → cond (eqb (g k) 0) (first_from g (suc k) xs) k ≡ from
    go true e ih =
        let q : k ≡ from = eqb-true k from e in
        rw (ne_eqb (g k) 0 (λ w. differ (sym w ∙ (ap g q ∙ o)))) q
    go false e ih =
        let ne : k ≡ from → ⊥ = eqb-false k from e in
        let lt : k < from = omega arith in
        rw (eq-eqb (g k) 0 (z k lt)) (ih lt)

-- a driven byte is driven with what stands on the line
abbrev drive_at : Drive → Figures → ℕ → List ℕ → List ℕ → ℕ → Type 0
drive_at dr f s locks array at = (k : ℕ) → kth dr f s locks array at k ≡ drives (on_line (kth dr f s locks array at k))

module _ (d : Device) (array sent : List ℕ) where
  -- nothing is driven
  none-driven : ((i : ℕ) → i < length sent → driven d array (take i sent) ≡ silent) → (0 ≡ first_of d array sent) × (0 ≡ count_of d array sent)
  unfolding first_of count_of sum_at driving_at
  none-driven h = (
    sym (first-none (driving_at d array sent) 0 sent (λ i l m. rw (h i (omega arith)))),
    sym (sum-none 0 (λ i x. driving_at d array sent i) sent (λ i x l m. rw (h i (omega arith)))),
  )

  -- the row drives from its first position on
  module _ (on : drive_at (heard_row d sent).drive (figures_of d.part) (status_byte d) d.locks array (address_of (figures_of d.part) sent)) where
    loud : (i : ℕ) → i ≤ length sent → (heard_row d sent).from ≤ i → driven d array (take i sent) ≡ drives (on_line (driven d array (take i sent)))
    loud i le h =
        let e = driven-from d array sent i le h in
        e ∙ (on (i - (heard_row d sent).from) ∙ ap (λ (x : Driven). drives (on_line x)) (sym e))

    span-on : ((from_on (heard_row d sent).from (length sent)).first ≡ first_of d array sent) × ((from_on (heard_row d sent).from (length sent)).count ≡ count_of d array sent)
    unfolding first_of count_of sum_at driving_at
    span-on = go (ltb from (length sent)) refl
      where
        from : ℕ
        from = (heard_row d sent).from

        both-sides : {i : ℕ} → length sent ≤ i → i < length sent → ⊥
        both-sides h l = omega arith

        go : (b : Bool) → ltb from (length sent) ≡ b
            → ((cond b (record { first = from; count = length sent - from }) no_span).first ≡ first_of d array sent) × ((cond b (record { first = from; count = length sent - from }) no_span).count ≡ count_of d array sent)
        go true e =
            let lt = ltb-true from (length sent) e in (
              sym (first-at (driving_at d array sent) 0 from sent (omega arith) (omega arith) (λ i h. rw (driven-before d array sent i (omega arith) h)) (rw (loud from (omega arith) (le_refl from)))),
              sym (sum-count from (length sent) sent (λ i x. driving_at d array sent i) (omega arith) (le_refl (length sent)) (λ i x h. rw (driven-before d array sent i (omega arith) h)) (λ i x h l. absurd (both-sides h l))
                  (λ i x h. rw (loud (from + i) (omega arith) (omega arith)))),
            )
        go false e =
            let ge = ltb-false from (length sent) e in
            none-driven (λ i lt. driven-before d array sent i (omega arith) (omega arith))

  -- first and count as the code finds them
  pub span-is : (dr : Drive) → (heard_row d sent).drive ≡ dr
      → ((span_of dr (heard_row d sent).from (length sent)).first ≡ first_of d array sent) × ((span_of dr (heard_row d sent).from (length sent)).count ≡ count_of d array sent)
  span-is Nothing e = none-driven (λ i lt. driven-nothing d array sent e i (omega arith))
  span-is Identification e = span-on (λ k. rw e)
  span-is Status e = span-on (λ k. rw e)
  span-is Array e = span-on (λ k. rw e)
  span-is Signature e = span-on (λ k. rw e)
  span-is Register e = span-on (λ k. rw e)

  -- the first driven position is at most 5: after the code, the address and one byte more
  pub first-soon : first_of d array sent ≤ 5
  first-soon = rw (← (span-is (heard_row d sent).drive refl).0) (span-soon (heard_row d sent).drive)
    where
      from-soon : (from_on (heard_row d sent).from (length sent)).first ≤ 5
      from-soon = cond_ind (λ (s : Span). s.first ≤ 5) (ltb (heard_row d sent).from (length sent)) (heard-laws d sent).soon (lit≤ tt)

      span-soon : (dr : Drive) → (span_of dr (heard_row d sent).from (length sent)).first ≤ 5
      span-soon Nothing = lit≤ tt
      span-soon Identification = from-soon
      span-soon Status = from-soon
      span-soon Array = from-soon
      span-soon Signature = from-soon
      span-soon Register = from-soon

-- ---- the answer, the response and what was driven

-- a reading that is taken at all and gets past its first driven position is executed
reading-taken : (d : Device) (r : Row) (n pulses : ℕ) (w : Bool) (at : ℕ) → heard d r ≡ true → Reads r → r.from < n → n ≤ longest → chip_number d r n pulses w at ≡ 0
unfolding heard chip_number as_needed
reading-taken d r n pulses w at h e lt le =
    let p = both r.known ((not (is_busy d.mode) || r.busy) && (not (is_deep d.mode) || r.deep)) h in
    let q = both (not (is_busy d.mode) || r.busy) (not (is_deep d.mode) || r.deep) p.1 in
    let l : r.least ≤ n = omega (arith, e.enough) in
    rw (
      ne_eqb n 0 (λ z. omega arith),
      p.0,
      allowed (is_busy d.mode) r.busy q.0,
      allowed (is_deep d.mode) r.deep q.1,
      le-leb r.least n l,
      e.unbounded,
      le-leb n longest le,
      e.pulsed,
      e.unlatched,
      e.startless (λ k. guarded_in k (figures_of d.part) d at) false,
      e.startless (λ k. (uses_of k).settings) false,
      e.lockless,
    )
  where
    allowed : (a b : Bool) → not a || b ≡ true → a && not b ≡ false
    allowed true true h = refl
    allowed true false h = absurd (false≢true h)
    allowed false b h = refl

-- where the chip ignores, nothing is driven
pub ignored-silent : (d : Device) (array sent : List ℕ) (pulses : ℕ) (w : Bool) → length sent ≤ longest
    → (chip_number d (row_in d sent) (length sent) pulses w (address_of (figures_of d.part) sent) ≡ 0 → ⊥)
    → (i : ℕ) → i < length sent → driven d array (take i sent) ≡ silent
unfolding heard_row
ignored-silent d array sent pulses w le some i lt = by-row (heard d (row_in d sent)) refl (row_laws (figures_of d.part) (get_or sent 0 0)).reads
  where
    by_place : heard d (row_in d sent) ≡ true → Reads (row_in d sent) → (b : Bool) → ltb i (row_in d sent).from ≡ b → driven d array (take i sent) ≡ silent
    by_place h e true q = driven-before d array sent i (omega arith) (rw h (ltb-true i (row_in d sent).from q))
    by_place h e false q =
        let k = ltb-false i (row_in d sent).from q in
        absurd (some (reading-taken d (row_in d sent) (length sent) pulses w (address_of (figures_of d.part) sent) h e (omega arith) le))

    by-row : (b : Bool) → heard d (row_in d sent) ≡ b → ((row_in d sent).drive ≡ Nothing) ⊎ Reads (row_in d sent) → driven d array (take i sent) ≡ silent
    by-row false h e = driven-nothing d array sent (rw h) i (omega arith)
    by-row true h (inl e) = driven-nothing d array sent (rw h e) i (omega arith)
    by-row true h (inr e) = by_place h e (ltb i (row_in d sent).from) refl

-- byte i of a transaction: driven, with the response's byte, from `first` on for `count` bytes; silent, and FF in the response, elsewhere
pub record LineIs (d : Device) (array sent : List ℕ) (o : Outcome) (i : ℕ) : Type 0 where
  pub byte : get_or o.response i 0 ≡ on_line (driven d array (take i sent))
  pub inside : o.answer.first ≤ i → i < o.answer.first + o.answer.count → driven d array (take i sent) ≡ drives (get_or o.response i 0)
  pub outside : (o.answer.first ≤ i → i < o.answer.first + o.answer.count → ⊥) → (driven d array (take i sent) ≡ silent) × (get_or o.response i 0 ≡ 255)

-- driven from `first` on for `count` bytes, and silent elsewhere
abbrev Spanned : Driven → ℕ → ℕ → ℕ → Type 0
Spanned x i first count = (first ≤ i → i < first + count → x ≡ drives (on_line x)) × ((first ≤ i → i < first + count → ⊥) → x ≡ silent)

module _ (d : Device) (array sent : List ℕ) (i : ℕ) (lt : i < length sent) where
  spanned : Spanned (driven d array (take i sent)) i (first_of d array sent) (count_of d array sent)
  spanned = by-drive (heard_row d sent).drive refl
    where
      from : ℕ
      from = (heard_row d sent).from

      never : {a : ℕ} → a ≤ i → i < a → ⊥
      never h l = omega arith

      at_places : {first count : ℕ} → (first ≡ first_of d array sent) × (count ≡ count_of d array sent) → Spanned (driven d array (take i sent)) i first count
          → Spanned (driven d array (take i sent)) i (first_of d array sent) (count_of d array sent)
      at_places e h = rw (← e.0, ← e.1) h

      by_span : drive_at (heard_row d sent).drive (figures_of d.part) (status_byte d) d.locks array (address_of (figures_of d.part) sent) → (b : Bool) → ltb from (length sent) ≡ b
          → Spanned (driven d array (take i sent)) i (cond b (record { first = from; count = length sent - from }) no_span).first (cond b (record { first = from; count = length sent - from }) no_span).count
      by_span on true e =
          let l = ltb-true from (length sent) e in
          (λ a b. loud d array sent on i (omega arith) a, λ a. by_place a (ltb i from) refl)
        where
          by_place : (from ≤ i → i < from + (length sent - from) → ⊥) → (b : Bool) → ltb i from ≡ b → driven d array (take i sent) ≡ silent
          by_place a true q = driven-before d array sent i (omega arith) (ltb-true i from q)
          by_place a false q = let k = ltb-false i from q in absurd (a k (omega arith))
      by_span on false e =
          let l = ltb-false from (length sent) e in
          (λ a b. absurd (never a b), λ a. driven-before d array sent i (omega arith) (omega arith))

      by-drive : (dr : Drive) → (heard_row d sent).drive ≡ dr → Spanned (driven d array (take i sent)) i (first_of d array sent) (count_of d array sent)
      by-drive Nothing e = at_places (span-is d array sent Nothing e) (λ a b. absurd (never a b), λ a. driven-nothing d array sent e i (omega arith))
      by-drive Identification e = at_places (span-is d array sent Identification e) (by_span (λ k. rw e) (ltb from (length sent)) refl)
      by-drive Status e = at_places (span-is d array sent Status e) (by_span (λ k. rw e) (ltb from (length sent)) refl)
      by-drive Array e = at_places (span-is d array sent Array e) (by_span (λ k. rw e) (ltb from (length sent)) refl)
      by-drive Signature e = at_places (span-is d array sent Signature e) (by_span (λ k. rw e) (ltb from (length sent)) refl)
      by-drive Register e = at_places (span-is d array sent Register e) (by_span (λ k. rw e) (ltb from (length sent)) refl)

  module _ (pulses : ℕ) (w : Bool) (response : List ℕ) (fine : host_number d (length array) (length sent) pulses (length response) ≡ 0) where
    -- the line of every call that is not refused
    pub line-is-driven : LineIs d array sent (transacted d array sent pulses w response) i
    unfolding transacted outcome_of lined
    line-is-driven = by-verdict (verdict-is d (length array) sent pulses w (length response))
      where
        h : Host d (length array) (length sent) pulses (length response)
        h = not-refused d (length array) (length sent) pulses (length response) fine

        never : {a : ℕ} → a ≤ i → i < a → ⊥
        never h l = omega arith

        room : i < length response
        room = omega (arith, h.room)

        on-line : get_or (map_at (lined d array sent) response) i 0 ≡ on_line (driven d array (take i sent))
        on-line = get_or-map (lined d array sent) response i 0 room ∙ rw (lt-ltb i (length sent) lt)

        blank : get_or (map_at (window 0 (length sent) (put 255)) response) i 0 ≡ 255
        blank = get_or-map (window 0 (length sent) (put 255)) response i 0 room ∙ window-in 0 (length sent) (put 255) i (get_or response i 0) (omega arith) lt

        by-verdict : {v : Verdict}
            → Decision (host_number d (length array) (length sent) pulses (length response)) (chip_number d (row_in d sent) (length sent) pulses w (address_of (figures_of d.part) sent)) v
            → LineIs d array sent (outcome_of v d array sent response) i
        by-verdict (refuses a) = absurd (a fine)
        by-verdict (ignores a b) =
            let s = ignored-silent d array sent pulses w h.short b i lt in
            record { byte = blank ∙ rw s; inside = λ x y. absurd (never x y); outside = λ x. (s, blank) }
        by-verdict (executes a b) =
            record {
              byte = on-line;
              inside = λ x y. spanned.0 x y ∙ ap drives (sym on-line);
              outside = λ x. (spanned.1 x, on-line ∙ ap on_line (spanned.1 x));
            }

    -- an answer of 11 to 19 means silence at every byte
    pub ignored-is-silent : ((transacted d array sent pulses w response).answer.number ≡ 0 → ⊥) → driven d array (take i sent) ≡ silent
    unfolding transacted outcome_of
    ignored-is-silent other = by-verdict (verdict-is d (length array) sent pulses w (length response)) other
      where
        by-verdict : {v : Verdict}
            → Decision (host_number d (length array) (length sent) pulses (length response)) (chip_number d (row_in d sent) (length sent) pulses w (address_of (figures_of d.part) sent)) v
            → ((outcome_of v d array sent response).answer.number ≡ 0 → ⊥) → driven d array (take i sent) ≡ silent
        by-verdict (refuses a) o = absurd (a fine)
        by-verdict (ignores a b) o = ignored-silent d array sent pulses w (not-refused d (length array) (length sent) pulses (length response) fine).short b i lt
        by-verdict (executes a b) o = absurd (o refl)

-- two calls that are not refused and agree before byte i have the same byte i in the response
pub same-so-far : (d : Device) (array sent sent' : List ℕ) (pulses pulses' : ℕ) (w w' : Bool) (response response' : List ℕ)
    → host_number d (length array) (length sent) pulses (length response) ≡ 0 → host_number d (length array) (length sent') pulses' (length response') ≡ 0
    → (i : ℕ) → i < length sent → i < length sent' → take i sent ≡ take i sent'
    → get_or (transacted d array sent pulses w response).response i 0 ≡ get_or (transacted d array sent' pulses' w' response').response i 0
same-so-far d array sent sent' pulses pulses' w w' response response' f f' i l l' e =
    (line-is-driven d array sent i l pulses w response f).byte
    ∙ (ap (λ (before : List ℕ). on_line (driven d array before)) e ∙ sym (line-is-driven d array sent' i l' pulses' w' response' f').byte)
