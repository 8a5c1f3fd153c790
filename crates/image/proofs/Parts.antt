-- Laws of parts of n bytes: a loop over lent parts, and a part of what such a loop leaves.
-- Assumes nothing.
use Rattle.std.proofs.Common.{◌≡◌, ℕ, zero, suc, ◌+◌, ◌-◌, ◌*◌, ◌<◌, ◌≤◌, min, Bool, true, false, leb, List, ◌++◌, length, get_or, take, drop, sym, refl, ap, ◌∙◌, ap₂, zero-mul, arith, length-drop, length-take, get_or-drop, take_all, drop_of_length-le, get_or-take, ext_get_or, leb-false, leb-true}
use Rattle.std.specs.Simd.{first_chunks}
use Rattle.std.proofs.lemmas.List.{drop-drop, take_min}
use Rattle.std.proofs.Math.Seq.{take-append_seam, drop-append_seam}
use borrow.Rule.Slice.PartMut.{put_mid}
use lib.Arith.{digits_div, digits_mod}
use Rattle.slices.specs.Changed.{map_at, window}
use Rattle.slices.proofs.Maps.{length-map, get_or-map, map-agree, map_is, get_d_any}
use Rattle.slices.proofs.Parts.{length-lent, lent_map}
use Rattle.slices.proofs.Windows.{window_more, window-above, window_same}
use Rattle.image.specs.Images.{part_of, partwise}

-- byte k of part p is byte p * n + k of the whole
pub at_part : (n p k x : ℕ) (g : ℕ → List ℕ) → k < n → partwise n g (p * n + k) x ≡ get_or (g p) k x
at_part n p k x g h = ap₂ (λ (q r : ℕ). get_or (g q) r x) (digits_div p h) (digits_mod p h)

-- one turn of a loop over parts: part p came back with g p over it
pub part_step : (n p e : ℕ) (g : ℕ → List ℕ) (xs : List ℕ) {ys : List ℕ} → p * n ≤ e → e ≤ p * n + n → ys ≡ map_at (window 0 (p * n) (partwise n g)) xs
    → map_at (window (p * n) e (λ i x. get_or (g p) (i - p * n) x)) ys ≡ map_at (window 0 e (partwise n g)) xs
part_step n p e g xs le most r =
    window_more (p * n) e (partwise n g) (λ i x. get_or (g p) (i - p * n) x) xs r le
    (λ i x h k.
    let z : i ≡ p * n + (i - p * n) = omega arith in
    sym (ap (λ (m : ℕ). partwise n g m x) z ∙ at_part n p (i - p * n) x g (omega arith)))

-- a list over one of the same length is the list
over-all : (xs ys : List ℕ) → length xs ≡ length ys → xs ≡ map_at (get_or xs) ys
over-all xs ys e = map_is (get_or xs) ys xs e (λ i lt. get_d_any xs i 0 _ (omega arith))

-- the same where the part was lent as a whole, and g p is all of it
pub part-put : (n p : ℕ) (g : ℕ → List ℕ) (xs : List ℕ) {ys zs : List ℕ} → p * n + n ≤ length xs → length (g p) ≡ n → ys ≡ map_at (window 0 (p * n) (partwise n g)) xs
    → zs ≡ g p → put_mid (p * n) (p * n + n - p * n) ys zs ≡ map_at (window 0 ((p + 1) * n) (partwise n g)) xs
part-put n p g xs {ys} {zs} fit whole e f =
    let a = p * n in
    let l : length ys ≡ length xs = ap length e ∙ length-map _ xs in
    let k : length (take (a + n - a) (drop a ys)) ≡ a + n - a = length-lent a (a + n) ys (omega arith) (omega arith) in
    let z : (p + 1) * n ≡ a + n = omega arith in
    rw z
    (lent_map a (a + n) ys (omega arith) (omega arith) (get_or (g p)) (f ∙ over-all (g p) (take (a + n - a) (drop a ys)) (omega arith))
    ∙ part_step n p (a + n) g xs (omega arith) (omega arith) e)

-- the part `xs[p * n..d]` that ends at the next multiple of n or with the list
pub part_cut : (n p d : ℕ) (xs : List ℕ) → d ≡ min (p * n + n) (length xs) → take (d - p * n) (drop (p * n) xs) ≡ part_of n p xs
part_cut n p d xs s = go (leb (p * n + n) (length xs)) refl
  where
    go : (t : Bool) → leb (p * n + n) (length xs) ≡ t → take (d - p * n) (drop (p * n) xs) ≡ part_of n p xs
    go true e =
        let h : p * n + n ≤ length xs = leb-true (p * n + n) (length xs) e in
        let w : d - p * n ≡ n = omega arith in
        rw w
    go false e =
        let h : length xs < p * n + n = leb-false (p * n + n) (length xs) e in
        let w : d - p * n ≡ length xs - p * n = omega arith in
        let m : length xs - p * n ≤ n = omega arith in
        let k : length (drop (p * n) xs) ≡ length xs - p * n = length-drop (p * n) xs in
        rw w (take_all (length xs - p * n) (drop (p * n) xs) (omega arith) ∙ sym (take_all n (drop (p * n) xs) (omega arith)))

-- the same of a whole part
pub part-whole : (n p : ℕ) (xs : List ℕ) → p * n + n ≤ length xs → take (p * n + n - p * n) (drop (p * n) xs) ≡ part_of n p xs
part-whole n p xs h = part_cut n p (p * n + n) xs (omega arith)

-- chunk p of the first k is part p
pub chunk-is : (n k p : ℕ) (xs d : List ℕ) → p < k → get_or (first_chunks n k xs) p d ≡ part_of n p xs
chunk-is n zero p xs d h = absurd (omega arith)
chunk-is n (suc k) zero xs d h = rw zero-mul refl
chunk-is n (suc k) (suc p) xs d h =
    let z : n + p * n ≡ suc p * n = omega arith in
    chunk-is n k p (drop n xs) d (omega arith) ∙ ap (take n) (drop-drop (p * n) n xs ∙ ap (λ (m : ℕ). drop m xs) z)

-- from at most the end on is from there on
drop-least : (n s : ℕ) (xs : List ℕ) → s ≡ min n (length xs) → drop s xs ≡ drop n xs
drop-least n s xs p = go (leb n (length xs)) refl
  where
    go : (b : Bool) → leb n (length xs) ≡ b → drop s xs ≡ drop n xs
    go true e = let k = leb-true n (length xs) e in let z : s ≡ n = omega arith in ap (λ (m : ℕ). drop m xs) z
    go false e =
        let k = leb-false n (length xs) e in
        drop_of_length-le xs {i = s} (omega arith) ∙ sym (drop_of_length-le xs {i = n} (omega arith))

-- the chunk that comes next is part k, and the rest begins at part k + 1
pub chunk-next : (n k : ℕ) (xs part rest : List ℕ) → drop (k * n) xs ≡ part ++ rest → length part ≡ min n (length (drop (k * n) xs)) → (part ≡ part_of n k xs) × (rest ≡ drop ((k + 1) * n) xs)
chunk-next n k xs part rest e l =
    let z : k * n + n ≡ (k + 1) * n = omega arith in (
      sym (sym (take_min n (drop (k * n) xs)) ∙ (ap (λ (m : ℕ). take m (drop (k * n) xs)) (sym l) ∙ (ap (take (length part)) e ∙ take-append_seam part rest))),
      sym (drop-append_seam part rest) ∙ (ap (drop (length part)) (sym e) ∙ (drop-least n (length part) (drop (k * n) xs) l ∙ (drop-drop n (k * n) xs ∙ ap (λ (m : ℕ). drop m xs) z))),
    )

-- a window that ends with the list or past it
pub window-past : (d e : ℕ) (f : ℕ → ℕ → ℕ) (xs : List ℕ) → d ≡ min e (length xs) → map_at (window 0 d f) xs ≡ map_at (window 0 e f) xs
window-past d e f xs h = map-agree _ _ xs (λ i lt. window_same 0 d 0 e f i (get_or xs i 0) (λ u v. (omega arith, omega arith)) (λ u v. (omega arith, omega arith)))

-- what lies ahead of the loop is still as it was
pub ahead : (n a : ℕ) (f : ℕ → ℕ → ℕ) (xs : List ℕ) {ys : List ℕ} → ys ≡ map_at (window 0 a f) xs → take n (drop a ys) ≡ take n (drop a xs)
ahead n a f xs {ys} e =
    let l : length ys ≡ length xs = ap length e ∙ length-map _ xs in
    ap (take n) (ext_get_or 0 (drop a ys) (drop a xs) (simp length-drop (rw l))
    (λ i lt. let k : i < length ys - a = rw length-drop at lt in
    get_or-drop a ys i 0 ∙ (ap (λ (t : List ℕ). get_or t (a + i) 0) e ∙ (get_or-map _ xs (a + i) 0 (omega arith) ∙ (window-above 0 a f (a + i) _ (omega arith) ∙ sym (get_or-drop a xs i 0))))))

-- a whole part of what the loop leaves
pub part-of : (n p : ℕ) (g : ℕ → List ℕ) (xs : List ℕ) → length (g p) ≡ n → p * n + n ≤ length xs → part_of n p (map_at (partwise n g) xs) ≡ g p
part-of n p g xs e h =
    let l = length-map (partwise n g) xs in
    let m : length (part_of n p (map_at (partwise n g) xs)) ≡ n = simp (length-take, length-drop) (omega arith) in
    ext_get_or 0 (part_of n p (map_at (partwise n g) xs)) (g p) (m ∙ sym e)
    (λ i lt. let k : i < n = rw m at lt in
    get_or-take n _ i 0 k ∙ (get_or-drop (p * n) _ i 0 ∙ (get_or-map (partwise n g) xs (p * n + i) 0 (omega arith) ∙ (at_part n p i _ g k ∙ get_d_any (g p) i _ 0 (omega arith)))))
