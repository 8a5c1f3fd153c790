-- THEOREM: after a week of files each total is what it was and what the files that answered 0 gave, and the chip is where these files' events left it: a refused file counts for nothing, and changes nothing.
-- Assumes nothing.
use mathlib.Core.Path.{◌≡◌, refl, sym, ap, ◌∙◌}
use mathlib.Core.List.{List, [], ◌∷◌}
use Prim.Native.Nat.{ℕ, ◌+◌, ◌<◌}
use native.Mathlib.Omega.{arith}
use Rattle.parts.specs.Parts.{figures_of}
use Rattle.device.specs.declared.Device.{Device}
use Rattle.device.specs.declared.Checked.{Checked}
use Rattle.device.specs.Chip.{Chip, chip}
use Rattle.chip.specs.Events.{run}
use Rattle.chip.proofs.Events.{run-append}
use Rattle.batch.specs.Items.{events_of}
use Rattle.report.specs.Totals.{totals, total_in}
use Rattle.report.specs.Report.{gained, counted, Reported}
use Rattle.report.specs.Theorems.{events_of_all, Week, none, took, refuses}
use Rattle.report.proofs.Foresee.{total-none}
use Rattle.report.proofs.Sums.{gained-both}
use Rattle.report.proofs.Adding.{total-added}
use Rattle.report.proofs.Theorems.{refused-stays, taken}
use Rattle.report.proofs.Append.{passed}

-- THEOREM: each total of a report that answers 0
pub report-adds : {d : Device} {array items responses answers held : List ℕ} {r : Checked} {array' responses' answers' held' : List ℕ} → Reported d array items responses answers held r array' responses' answers' held' → r.answer ≡ 0
    → (i : ℕ) → i < totals → total_in held' i ≡ total_in held i + gained (events_of items) (chip d array) i
unfolding counted
report-adds {d} {array} {items} {responses} {answers} {held} p z i h =
    let a = passed d array items responses answers held (sym p.answer ∙ z) in
    ap (λ (b : List ℕ). total_in b i) (taken p z).sums ∙ total-added (gained (events_of items) (chip d array)) held a.long a.fits i h

same-chip : (c e : Chip) → c.device ≡ e.device → c.array ≡ e.array → c ≡ e
same-chip c e d a = λ j. record { device = d j; array = a j }

left-chip : (c : Chip) {items responses answers held : List ℕ} {r : Checked} {array' responses' answers' held' : List ℕ} → Reported c.device c.array items responses answers held r array' responses' answers' held' → r.answer ≡ 0
    → chip r.device array' ≡ run (events_of items) c
unfolding counted
left-chip c {items} {responses} {answers} {held} {r} {array'} p z = let h = taken p z in same-chip (chip r.device array') (run (events_of items) c) h.device h.memory

-- THEOREM: the chip
pub week-chip : (files : List (List ℕ)) (c : Chip) (held : List ℕ) (kept : List (List ℕ)) (end : Chip) (last : List ℕ) → Week files c held kept end last → end ≡ run (events_of_all kept) c
week-chip [] c held [] end last (none _ _) = refl
week-chip [] c held (_ ∷ kept) end last w = elim w [ ]
week-chip (file ∷ files) c held (_ ∷ kept) end last (took _ _ _ _ responses answers r array' responses' answers' held' _ _ _ p z w) =
    week-chip files (chip r.device array') held' kept end last w ∙ (ap (run (events_of_all kept)) (left-chip c p z) ∙ sym (run-append (events_of file) (events_of_all kept) c))
week-chip (file ∷ files) c held kept end last (refuses _ _ _ _ responses answers r array' responses' answers' held' _ _ _ p n w) =
    let s = refused-stays p n in
    week-chip files (chip r.device array') held' kept end last w ∙ ap (run (events_of_all kept)) (same-chip (chip r.device array') c s.0 s.1)

-- THEOREM: the totals
pub week-totals : (files : List (List ℕ)) (c : Chip) (held : List ℕ) (kept : List (List ℕ)) (end : Chip) (last : List ℕ) → Week files c held kept end last → (i : ℕ) → i < totals
    → total_in last i ≡ total_in held i + gained (events_of_all kept) c i
week-totals [] c held [] end last (none _ _) i h = omega (arith, total-none (figures_of c.device.part) i)
week-totals [] c held (_ ∷ kept) end last w i h = elim w [ ]
week-totals (file ∷ files) c held (_ ∷ kept) end last (took _ _ _ _ responses answers r array' responses' answers' held' _ _ _ p z w) i h =
    let a = week-totals files (chip r.device array') held' kept end last w i h in
    let b = ap (λ (e : Chip). gained (events_of_all kept) e i) (left-chip c p z) in
    omega (arith, a, b, report-adds p z i h, gained-both (events_of file) (events_of_all kept) c i)
week-totals (file ∷ files) c held kept end last (refuses _ _ _ _ responses answers r array' responses' answers' held' _ _ _ p n w) i h =
    let s = refused-stays p n in
    let a = week-totals files (chip r.device array') held' kept end last w i h in
    let b = ap (λ (e : Chip). gained (events_of_all kept) e i) (same-chip (chip r.device array') c s.0 s.1) in
    let t = ap (λ (x : List ℕ). total_in x i) s.4 in
    omega (arith, a, b, t)
