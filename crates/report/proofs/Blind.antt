-- THEOREM: what a list of events adds, and so the number of a report, looks at no byte of the array: so 71 can be found before anything is touched.
-- Assumes nothing.
use mathlib.Core.Path.{◌≡◌, refl, ap, ◌∙◌}
use mathlib.Core.List.{List, [], ◌∷◌}
use Prim.Native.Nat.{ℕ}
use native.Mathlib.Omega.{arith}
use lib.ListN.{length}
use Rattle.parts.specs.declared.Figures.{Figures}
use Rattle.parts.specs.Parts.{figures_of}
use Rattle.device.specs.declared.Device.{Device}
use Rattle.device.specs.Chip.{Chip, chip}
use Rattle.chip.specs.Events.{Event, sends, waits, starts, loses, Reply, story}
use Rattle.chip.proofs.Events.{Alike, AllSame, run-alike}
use Rattle.batch.specs.Items.{events_of}
use Rattle.report.specs.Totals.{Dealt, dealt, total_of}
use Rattle.report.specs.Report.{dealt_by, gained, report_number}
use Rattle.report.proofs.Foresee.{total-same}
use Rattle.report.proofs.Sums.{total-append}
use Rattle.report.proofs.Adding.{exceeds-same}

-- one transaction in front
total-front : (f : Figures) (s t : Dealt) (ss ts : List Dealt) (i : ℕ) → s.sent ≡ t.sent → s.answer.number ≡ t.answer.number → s.answer.count ≡ t.answer.count → total_of f ss i ≡ total_of f ts i
    → total_of f (s ∷ ss) i ≡ total_of f (t ∷ ts) i
total-front f s t ss ts i b n c e = omega (arith, total-append f (s ∷ []) ss i, total-append f (t ∷ []) ts i, total-same f s t [] i b n c, e)

-- replies that are the same but for the bits missing give the same
same-totals : (f : Figures) (es : List Event) (rs ss : List Reply) → AllSame rs ss → (i : ℕ) → total_of f (dealt es rs) i ≡ total_of f (dealt es ss) i
same-totals f [] rs ss h i = refl
same-totals f (e ∷ es) [] [] h i = refl
same-totals f (e ∷ es) [] (s ∷ ss) h i = absurd h
same-totals f (e ∷ es) (r ∷ rs) [] h i = absurd h
same-totals f (sends bytes p w ∷ es) (r ∷ rs) (s ∷ ss) h i =
    total-front f (record { sent = bytes; answer = r.answer }) (record { sent = bytes; answer = s.answer }) (dealt es rs) (dealt es ss) i refl h.0.number h.0.count (same-totals f es rs ss h.1 i)
same-totals f (waits t ∷ es) (r ∷ rs) (s ∷ ss) h i = same-totals f es rs ss h.1 i
same-totals f (starts ∷ es) (r ∷ rs) (s ∷ ss) h i = same-totals f es rs ss h.1 i
same-totals f (loses mask told ∷ es) (r ∷ rs) (s ∷ ss) h i = same-totals f es rs ss h.1 i

-- THEOREM: chips with the same record and arrays of one length
pub gained-blind : (es : List Event) (a b : Chip) → Alike a b → (i : ℕ) → gained es a i ≡ gained es b i
gained-blind es a b k i =
    same-totals (figures_of a.device.part) es (story es a) (story es b) (run-alike es a b k).1 i ∙ ap (λ (d : Device). total_of (figures_of d.part) (dealt_by es b) i) k.device

-- THEOREM: so is the number of a report
pub number-blind : (d : Device) (array other items : List ℕ) (responses answers : ℕ) (held : List ℕ) → length array ≡ length other → report_number d array items responses answers held ≡ report_number d other items responses answers held
unfolding report_number
number-blind d array other items responses answers held l =
    let k : Alike (chip d array) (chip d other) = record { device = refl; long = l } in
    rw (exceeds-same (gained (events_of items) (chip d array)) held (gained (events_of items) (chip d other)) (λ i h. gained-blind (events_of items) (chip d array) (chip d other) k i), l)
