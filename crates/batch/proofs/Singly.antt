-- THEOREM: record, array and every byte of a batch's buffers are those of its items given singly, in order.
-- Assumes nothing.
use Rattle.std.proofs.Common.{◌≡◌, ℕ, ◌+◌, true, List, [], ◌∷◌, length, replicate, sym, refl, ap, ◌∙◌}
use lib.ListN.{length-replicate}
use Rattle.device.specs.declared.Device.{Device}
use Rattle.device.specs.declared.Checked.{Checked}
use Rattle.device.specs.Chip.{chip}
use Rattle.chip.specs.Outcome.{Outcome, bare}
use Rattle.chip.specs.Events.{Chip, Good, Event, sends, waits, starts, loses, Reply, sent, after, reply, run, missed, story}
use Rattle.chip.proofs.Events.{sent_is, after-good}
use Rattle.chip.proofs.Rules.{Bytes}
use Rattle.batch.specs.Items.{items_of, all_good, events_of}
use Rattle.batch.specs.Batch.{carried_out, batched, Holds, Batched}
use Rattle.batch.specs.Theorems.{Single, Singly, none, more, missings, laid_down}
use Rattle.batch.proofs.Runs.{accepted}
use Rattle.batch.proofs.Fits.{Fits, AllFit, events-fit}

same-reply : {r s : Reply} → r.answer ≡ s.answer → r.line ≡ s.line → r ≡ s
same-reply {r} {s} a l = λ j. record { answer = a j; line = l j }

same-chip : {c e : Chip} → c.device ≡ e.device → c.array ≡ e.array → c ≡ e
same-chip {c} {e} d a = λ j. record { device = d j; array = a j }

-- one item: what the call shows and leaves is what the event does
single-is : (e : Event) (c : Chip) (r : Reply) (next : Chip) → Good c → Fits e → Single e c r next → (r ≡ reply e c) × (next ≡ after e c)
single-is (sends bytes p w) c r next g t (response, l, m) =
    let e = sent_is c g bytes p w t.0 t.1 response l in
    (same-reply (m.answer ∙ ap (λ (o : Outcome). o.answer) e) (m.line ∙ ap (λ (o : Outcome). o.response) e), same-chip (m.device ∙ ap (λ (o : Outcome). o.device) e) (m.memory ∙ ap (λ (o : Outcome). o.array) e))
single-is (waits t) c r next g u (h, b, l) = (same-reply (b ∙ ap bare h.answer) l, same-chip h.device h.memory)
single-is starts c r next g t s = absurd s
single-is (loses mask told) c r next g t s = absurd s

-- all of them, in order
singly-is : (es : List Event) (c : Chip) (rs : List Reply) (end : Chip) → Good c → AllFit es → Singly es c rs end → (rs ≡ story es c) × (end ≡ run es c)
singly-is [] c [] end g t (none _) = (refl, refl)
singly-is [] c (r ∷ rs) end g t s = elim s [ ]
singly-is (e ∷ es) c [] end g t s = elim s [ ]
singly-is (e ∷ es) c (r ∷ rs) end g t (more _ _ _ _ _ next _ s ss) =
    let p = single-is e c r next g t.0 s in
    let n : Good next = rw p.1 (after-good e c g) in
    let q = singly-is es next rs end n t.1 ss in
    rw (p.0, q.0, q.1, p.1) (refl, refl)

-- and the other way round, so that nothing is claimed of calls that nobody could make: what the events show and leave is what such calls may hand back
single-some : (e : Event) (c : Chip) → Fits e → Single e c (reply e c) (after e c)
unfolding sent
single-some (sends bytes p w) c t = (replicate (length bytes) 0, length-replicate (length bytes) 0, record { answer = refl; device = refl; memory = refl; line = refl })
single-some (waits t) c u = (record { answer = refl; device = refl; memory = refl }, refl, refl)
single-some starts c t = absurd t
single-some (loses mask told) c t = absurd t

pub singly-some : (es : List Event) (c : Chip) → AllFit es → Singly es c (story es c) (run es c)
singly-some [] c t = none c
singly-some (e ∷ es) c t = more e es c (reply e c) (story es (after e c)) (after e c) (run es (after e c)) (single-some e c t.0) (singly-some es (after e c) t.1)

-- so of the items of a batch
pub items-some : (items : List ℕ) (c : Chip) → all_good (items_of items) ≡ true → Bytes items → Singly (events_of items) c (story (events_of items) c) (run (events_of items) c)
items-some items c g b = singly-some (events_of items) c (events-fit items g b)

missings-is : (es : List Event) (c : Chip) → missings (story es c) ≡ missed es c
missings-is [] c = refl
missings-is (e ∷ es) c = ap (λ (n : ℕ). (reply e c).answer.missing + n) (missings-is es (after e c))

-- THEOREM: where a batch answers 0, what it leaves is what its items leave that are given singly, in order, with any responses of their own lengths
pub as-singly : {d : Device} {array items responses answers missing : List ℕ} {r : Checked} {array' responses' answers' missing' : List ℕ} {rs : List Reply} {end : Chip} → Bytes items
    → Batched d array items responses answers missing r array' responses' answers' missing' → r.answer ≡ 0 → Singly (events_of items) (chip d array) rs end
    → Holds (laid_down rs end responses answers missing) r.device array' responses' answers' missing'
unfolding batched carried_out laid_down
as-singly {d} {array} {items} {responses} {answers} {missing} {r} {array'} {responses'} {answers'} {missing'} {rs} {end} b p z s =
    let n = sym p.answer ∙ z in
    let k = accepted d array items _ _ _ n in
    let q = singly-is (events_of items) (chip d array) rs end k.good (events-fit items k.formed b) s in
    rw (q.0, q.1, missings-is (events_of items) (chip d array)) (rw n at p.outcome)
