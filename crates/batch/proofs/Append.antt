-- THEOREM: two batches one after the other, neither refused, leave what the batch of both leaves, their bytes appended and their bits missing added; and a batch that is not refused may be cut in two behind any item.
-- Assumes nothing.
use Rattle.std.proofs.Common.{◌≡◌, ℕ, zero, suc, ◌+◌, ◌≤◌, true, List, [], ◌∷◌, ◌++◌, map, length, get_or, take, drop, sym, refl, ap, ◌∙◌, append_assoc, zero-add, arith, length-append, length-drop, length-take, get_or-take, drop-drop}
use lib.ListN.{get_or-append}
use lib.Seq.{take-append-le}
use Rattle.slices.specs.Bytes.{long}
use Rattle.slices.specs.Changed.{map_at, stored, laid}
use Rattle.slices.proofs.Choices.{both}
use Rattle.slices.proofs.Laid.{laid_more, laid-length}
use Rattle.device.specs.declared.Device.{Device}
use Rattle.device.specs.declared.Checked.{Checked}
use Rattle.device.specs.Chip.{Chip, chip}
use Rattle.chip.specs.Events.{Event, Reply, after, reply, run, missed, story}
use Rattle.chip.proofs.Events.{run-append, story-append, missed-append, run-good}
use Rattle.batch.specs.Items.{length_in, first_in, items_from, items_of, good_item, all_good, event_in, events_of}
use Rattle.batch.specs.Batch.{lines, numbers, room_for, missing_bytes, wrapped, batch_number, Out, carried_out, batched, Holds, Batched}
use Rattle.batch.proofs.One.{item-long}
use Rattle.batch.proofs.Going.{reply-length}
use Rattle.batch.proofs.Runs.{Accepted, accepted, accepting}

-- ---- the items of appended bytes

-- a good first item is whole
first-whole : (b : List ℕ) → good_item (first_in b) ≡ true → 3 + length_in b ≤ length b
unfolding first_in
first-whole b g =
    let i = take (3 + length_in b) b in
    let l : length i ≡ 3 + length_in i = item-long i g in
    let a : get_or i 0 0 ≡ get_or b 0 0 = get_or-take (3 + length_in b) b 0 0 (omega arith) in
    let c : get_or i 1 0 ≡ get_or b 1 0 = get_or-take (3 + length_in b) b 1 0 (omega arith) in
    omega (arith, length-take (3 + length_in b) b)

same-length-in : (a b : List ℕ) → 2 ≤ length a → length_in (a ++ b) ≡ length_in a
same-length-in a b h = rw (get_or-append a b 0 0 (omega arith), get_or-append a b 0 1 (omega arith))

from-append : (xs ys : List ℕ) (k : ℕ) → k ≤ length xs → all_good (items_from xs k) ≡ true → items_from (xs ++ ys) k ≡ items_from xs k ++ items_of ys
unfolding items_from first_in
from-append [] ys k h g = let z : k ≡ 0 = omega arith in rw z
from-append (x ∷ xs) ys zero h g =
    let p = both (good_item (first_in (x ∷ xs))) (all_good (items_from xs (2 + length_in (x ∷ xs)))) g in
    let w = first-whole (x ∷ xs) p.0 in
    let e = same-length-in (x ∷ xs) ys (omega arith) in
    rw (e, take-append-le (3 + length_in (x ∷ xs)) (x ∷ xs) ys w) (ap (λ (t : List (List ℕ)). first_in (x ∷ xs) ∷ t) (from-append xs ys (2 + length_in (x ∷ xs)) (omega arith) p.1))
from-append (x ∷ xs) ys (suc k) h g = from-append xs ys k (omega arith) g

-- where the first batch is good
pub items-append : (a b : List ℕ) → all_good (items_of a) ≡ true → items_of (a ++ b) ≡ items_of a ++ items_of b
items-append a b g = from-append a b 0 (omega arith) g

map-append : (f : List ℕ → Event) (a b : List (List ℕ)) → map f (a ++ b) ≡ map f a ++ map f b
map-append f [] b = refl
map-append f (x ∷ a) b = ap (λ (t : List Event). f x ∷ t) (map-append f a b)

pub events-append : (a b : List ℕ) → all_good (items_of a) ≡ true → events_of (a ++ b) ≡ events_of a ++ events_of b
events-append a b g = ap (map event_in) (items-append a b g) ∙ map-append event_in (items_of a) (items_of b)

good-append : (is js : List (List ℕ)) → all_good is ≡ true → all_good js ≡ true → all_good (is ++ js) ≡ true
good-append [] js g h = h
good-append (i ∷ is) js g h = let p = both (good_item i) (all_good is) g in rw p.0 (good-append is js p.1 h)

-- ---- what lists of events need and show

pub lines-append : (a b : List Reply) → lines (a ++ b) ≡ lines a ++ lines b
lines-append [] b = refl
lines-append (x ∷ a) b = ap (λ (t : List ℕ). x.line ++ t) (lines-append a b) ∙ sym (append_assoc x.line (lines a) (lines b))

pub numbers-append : (a b : List Reply) → numbers (a ++ b) ≡ numbers a ++ numbers b
numbers-append [] b = refl
numbers-append (x ∷ a) b = ap (λ (t : List ℕ). x.answer.number ∷ t) (numbers-append a b)

room-append : (a b : List Event) → room_for (a ++ b) ≡ room_for a + room_for b
room-append [] b = sym (zero-add (room_for b))
room-append (e ∷ a) b = let h = room-append a b in omega arith

-- the response bytes of events are as many as they need, the answer bytes as many as they are
pub lines-length : (es : List Event) (c : Chip) → length (lines (story es c)) ≡ room_for es
lines-length [] c = refl
lines-length (e ∷ es) c = length-append (reply e c).line (lines (story es (after e c))) ∙ (let a = reply-length e c in let b = lines-length es (after e c) in omega arith)

pub numbers-length : (es : List Event) (c : Chip) → length (numbers (story es c)) ≡ length es
numbers-length [] c = refl
numbers-length (e ∷ es) c = ap suc (numbers-length es (after e c))

-- bytes laid from a place on, or laid from the start of what is left there
laid-rest : (n : ℕ) (ys xs : List ℕ) → laid n ys xs ≡ take n xs ++ laid 0 ys (drop n xs)
unfolding laid
laid-rest n ys xs = rw (zero-add (length ys), drop-drop (length ys) n xs)

-- two rows laid one after the other: the second over what the first left
laid_both : (n : ℕ) (ys zs xs : List ℕ) → length ys ≡ n → laid 0 (ys ++ zs) xs ≡ take n (laid 0 ys xs) ++ laid 0 zs (drop n (laid 0 ys xs))
laid_both n ys zs xs e = laid_more 0 ys zs xs (omega arith) ∙ (let z : 0 + length ys ≡ n = omega arith in rw z (laid-rest n zs (laid 0 ys xs)))

wrapped-both : (m n : ℕ) → wrapped (m + n) ≡ wrapped (wrapped m + wrapped n)
wrapped-both m n = omega arith

-- ---- two lists of events

module _ (es fs : List Event) (c : Chip) (responses answers missing other : List ℕ) where
  abbrev one : Out
  one = carried_out es c responses answers missing

  abbrev two : Out
  two = carried_out fs one.chip (drop (room_for es) one.responses) (drop (length es) one.answers) other

  -- the second list goes on from the chip that the first left, and is lent what the first left over of responses and answers
  pub carried-both : carried_out (es ++ fs) c responses answers missing
      ≡ record {
        chip = two.chip;
        responses = take (room_for es) one.responses ++ two.responses;
        answers = take (length es) one.answers ++ two.answers;
        missing = map_at (stored 0 (long (wrapped (wrapped (missed es c) + wrapped (missed fs (run es c)))))) missing;
      }
  unfolding carried_out
  carried-both =
      rw (
        run-append es fs c,
        story-append es fs c,
        missed-append es fs c,
        lines-append (story es c) (story fs (run es c)),
        numbers-append (story es c) (story fs (run es c)),
        laid_both (room_for es) (lines (story es c)) (lines (story fs (run es c))) responses (lines-length es c),
        laid_both (length es) (numbers (story es c)) (numbers (story fs (run es c))) answers (numbers-length es c),
        wrapped-both (missed es c) (missed fs (run es c)),
      )

  -- buffers keep their lengths
  one-responses : room_for es ≤ length responses → length one.responses ≡ length responses
  unfolding carried_out
  one-responses h = let l = lines-length es c in laid-length 0 (lines (story es c)) responses (omega arith)

  one-answers : length es ≤ length answers → length one.answers ≡ length answers
  unfolding carried_out
  one-answers h = let l = numbers-length es c in laid-length 0 (numbers (story es c)) answers (omega arith)

-- ---- the theorem

module _ (d : Device) (array a b responses answers missing : List ℕ) where
  -- the response bytes and the answer bytes of the first batch, and the bits missing in both
  abbrev pub room : ℕ
  room = room_for (events_of a)

  abbrev pub count : ℕ
  count = length (events_of a)

  abbrev pub sums : ℕ
  sums = wrapped (wrapped (missed (events_of a) (chip d array)) + wrapped (missed (events_of b) (run (events_of a) (chip d array))))

  module _ {r s : Checked} {array' responses' answers' missing' array'' responses'' answers'' other other' : List ℕ}
      (p : Batched d array a responses answers missing r array' responses' answers' missing') (x : r.answer ≡ 0)
      (q : Batched r.device array' b (drop room responses') (drop count answers') other s array'' responses'' answers'' other') (y : s.answer ≡ 0) where
    first_taken : Accepted d array a (length responses) (length answers) (length missing)
    first_taken = accepted d array a _ _ _ (sym p.answer ∙ x)

    second-taken : Accepted r.device array' b (length (drop room responses')) (length (drop count answers')) (length other)
    second-taken = accepted r.device array' b _ _ _ (sym q.answer ∙ y)

    first_holds : Holds (carried_out (events_of a) (chip d array) responses answers missing) r.device array' responses' answers' missing'
    unfolding batched
    first_holds = let n = sym p.answer ∙ x in rw n at p.outcome

    second_holds : Holds (carried_out (events_of b) (chip r.device array') (drop room responses') (drop count answers') other) s.device array'' responses'' answers'' other'
    unfolding batched
    second_holds = let n = sym q.answer ∙ y in rw n at q.outcome

    -- the batch of both is not refused
    both-taken : Accepted d array (a ++ b) (length responses) (length answers) (length missing)
    both-taken =
        let f = first_taken in
        let g = second-taken in
        let e = events-append a b f.formed in
        let m = ap length first_holds.lines ∙ one-responses (events_of a) (events_of b) (chip d array) responses answers missing other f.room in
        let n = ap length first_holds.numbers ∙ one-answers (events_of a) (events_of b) (chip d array) responses answers missing other f.places in
        record {
          good = f.good;
          formed = rw (items-append a b f.formed) (good-append (items_of a) (items_of b) f.formed g.formed);
          room = rw (e, room-append (events_of a) (events_of b)) (omega (arith, f.room, g.room, length-drop room responses'));
          places = rw (e, length-append (events_of a) (events_of b)) (omega (arith, f.places, g.places, length-drop count answers'));
          sum = f.sum;
        }

    -- the second batch goes on from the chip that the first left, and is lent what the first left over of responses and answers; the bits missing are the sum of both
    pub two-batches : Batched d array (a ++ b) responses answers missing s array'' (take room responses' ++ responses'') (take count answers' ++ answers'') (map_at (stored 0 (long sums)) missing)
    unfolding batched
    two-batches =
        let n = accepting both-taken in
        let h = first_holds in
        let k = rw (h.device, h.memory, h.lines, h.numbers) at second_holds in
        record {
          answer = y ∙ sym n;
          outcome = rw (n, events-append a b first_taken.formed, carried-both (events_of a) (events_of b) (chip d array) responses answers missing other, h.lines, h.numbers) (record {
            device = k.device;
            memory = k.memory;
            lines = ap (λ (t : List ℕ). take room (carried_out (events_of a) (chip d array) responses answers missing).responses ++ t) k.lines;
            numbers = ap (λ (t : List ℕ). take count (carried_out (events_of a) (chip d array) responses answers missing).answers ++ t) k.numbers;
            sum = refl;
          });
        }

-- ---- cut in two

good-rest : (is js : List (List ℕ)) → all_good (is ++ js) ≡ true → all_good js ≡ true
good-rest [] js h = h
good-rest (i ∷ is) js h = good-rest is js (both (good_item i) (all_good (is ++ js)) h).1

-- a batch that is not refused, and its first items
module _ (d : Device) (array a b responses answers missing : List ℕ) (g : all_good (items_of a) ≡ true) (z : batch_number d (length array) (a ++ b) (length responses) (length answers) (length missing) ≡ 0) where
  whole : Accepted d array (a ++ b) (length responses) (length answers) (length missing)
  whole = accepted d array (a ++ b) _ _ _ z

  rooms : room_for (events_of a) + room_for (events_of b) ≤ length responses
  rooms = rw (events-append a b g, room-append (events_of a) (events_of b)) at whole.room

  counts : length (events_of a) + length (events_of b) ≤ length answers
  counts = rw (events-append a b g, length-append (events_of a) (events_of b)) at whole.places

  -- THEOREM: these alone are not refused either
  pub first_goes : batch_number d (length array) a (length responses) (length answers) (length missing) ≡ 0
  first_goes = accepting (record { good = whole.good; formed = g; room = omega (arith, rooms); places = omega (arith, counts); sum = whole.sum })

  -- THEOREM: nor are the others behind them, on what they leave
  pub rest_goes : (other : List ℕ) {r : Checked} {array' responses' answers' missing' : List ℕ} → Batched d array a responses answers missing r array' responses' answers' missing' → missing_bytes ≤ length other
      → batch_number r.device (length array') b (length (drop (room_for (events_of a)) responses')) (length (drop (length (events_of a)) answers')) (length other) ≡ 0
  unfolding batched carried_out
  rest_goes other {r} {array'} {responses'} {answers'} {missing'} p l =
      let h : Holds (carried_out (events_of a) (chip d array) responses answers missing) r.device array' responses' answers' missing' = rw first_goes at p.outcome in
      let m = ap length h.lines ∙ one-responses (events_of a) (events_of b) (chip d array) responses answers missing other (omega (arith, rooms)) in
      let n = ap length h.numbers ∙ one-answers (events_of a) (events_of b) (chip d array) responses answers missing other (omega (arith, counts)) in
      let k : Accepted r.device array' b (length (drop (room_for (events_of a)) responses')) (length (drop (length (events_of a)) answers')) (length other) =
      record {
        good = rw (h.device, h.memory) (run-good (events_of a) (chip d array) whole.good);
        formed = good-rest (items_of a) (items_of b) (rw (items-append a b g) at whole.formed);
        room = omega (arith, rooms, length-drop (room_for (events_of a)) responses');
        places = omega (arith, counts, length-drop (length (events_of a)) answers');
        sum = l;
      } in
      accepting k
