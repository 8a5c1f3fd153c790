-- What follows from the promise of a batch: the record stays sound, each item answers 0 or 11 to 19, each byte of the buffers, and what lies beyond stays.
-- Assumes nothing.
use Rattle.std.proofs.Common.{◌≡◌, ℕ, ◌+◌, ◌-◌, ◌<◌, ◌≤◌, true, ◌⊎◌, List, [], ◌∷◌, ◌++◌, length, get_or, drop, replicate, sym, ap, ◌∙◌, inl, zero-add, arith, get_or-drop, get_or-append-add}
use lib.ListN.{length-replicate, get_or-append}
use Rattle.slices.specs.Changed.{laid}
use Rattle.slices.proofs.Choices.{zero-ind}
use Rattle.device.specs.declared.Device.{Device}
use Rattle.device.specs.declared.Checked.{Checked}
use Rattle.device.specs.Chip.{chip}
use Rattle.device.specs.Device.{sound}
use Rattle.device.specs.Time.{Timed}
use Rattle.chip.specs.Events.{Chip, Good, Event, sends, waits, starts, loses, sent, after, reply, story}
use Rattle.chip.proofs.Events.{run-keeps, after-sound, after-good, no-refusal}
use Rattle.chip.proofs.Power.{wait-done}
use Rattle.chip.proofs.Rules.{Bytes, chip-answers}
use Rattle.batch.specs.Items.{events_of}
use Rattle.batch.specs.Batch.{numbers, batch_number, Out, carried_out, batched, Batched}
use Rattle.batch.proofs.Runs.{accepted}
use Rattle.batch.proofs.Fits.{Fits, AllFit, events-fit}

-- a sound record stays sound, refused or not
pub batch-sound : {d : Device} {array items responses answers missing : List ℕ} {r : Checked} {array' responses' answers' missing' : List ℕ} → Batched d array items responses answers missing r array' responses' answers' missing'
    → sound d ≡ true → sound r.device ≡ true
unfolding batched carried_out
batch-sound {d} {array} {items} {responses} {answers} {missing} p s =
    rw p.outcome.device
    (zero-ind (λ (o : Out). sound o.chip.device ≡ true) (batch_number d (length array) items (length responses) (length answers) (length missing))
    (run-keeps (λ (c : Chip). sound c.device ≡ true) after-sound (events_of items) (chip d array) s) s)

-- ---- the answers of the items

-- 0, or 11 to 19
abbrev pub OfItem : ℕ → Type 0
OfItem k = (k ≡ 0) ⊎ ((11 ≤ k) × (k ≤ 19))

abbrev pub OfItems : List ℕ → Type 0
OfItems [] = Unit {0}
OfItems (k ∷ ks) = OfItem k × OfItems ks

one_answer : (e : Event) (c : Chip) → Good c → Fits e → OfItem (reply e c).answer.number
unfolding sent
one_answer (sends bytes p w) c g t =
    let r : List ℕ = replicate (length bytes) 0 in
    let l : length r ≡ length bytes = length-replicate {A = ℕ} (length bytes) 0 in
    chip-answers c.device c.array bytes p w r (no-refusal c.device (length c.array) (length bytes) p (length r) g.sound g.whole t.0 t.1 (omega arith))
one_answer (waits t) c g u = inl (ap (λ (o : Timed). o.answer) (wait-done c g t))
one_answer starts c g t = absurd t
one_answer (loses mask told) c g t = absurd t

all-answers : (es : List Event) (c : Chip) → Good c → AllFit es → OfItems (numbers (story es c))
all-answers [] c g t = tt
all-answers (e ∷ es) c g t = (one_answer e c g t.0, all-answers es (after e c) (after-good e c g) t.1)

-- THEOREM: no item of a batch that is not refused is refused by itself
pub items-answer : (d : Device) (array items : List ℕ) (responses answers missing : ℕ) → Bytes items → batch_number d (length array) items responses answers missing ≡ 0 → OfItems (numbers (story (events_of items) (chip d array)))
items-answer d array items responses answers missing b z =
    let k = accepted d array items responses answers missing z in
    all-answers (events_of items) (chip d array) k.good (events-fit items k.formed b)

-- ---- byte by byte

-- a byte of what was laid from the start
pub laid-byte : (ys xs : List ℕ) (i : ℕ) → i < length ys → get_or (laid 0 ys xs) i 0 ≡ get_or ys i 0
unfolding laid
laid-byte ys xs i h = get_or-append ys (drop (0 + length ys) xs) 0 i h

-- a byte beyond it is as it was
pub beyond-stays : (ys xs : List ℕ) (i : ℕ) → length ys ≤ i → get_or (laid 0 ys xs) i 0 ≡ get_or xs i 0
unfolding laid
beyond-stays ys xs i h =
    let n : length ys + (i - length ys) ≡ i = omega arith in
    sym (ap (λ (k : ℕ). get_or (ys ++ drop (0 + length ys) xs) k 0) n) ∙ (get_or-append-add ys (drop (0 + length ys) xs) (i - length ys) 0 ∙ (get_or-drop (0 + length ys) xs (i - length ys) 0 ∙ ap (λ (k : ℕ). get_or xs k 0) (ap (λ (k : ℕ). k + (i - length ys)) (zero-add (length ys)) ∙ n)))
