-- `image::read` meets its contract.
use Rattle.std.proofs.Common.{◌≡◌, ℕ, sym, ap, ◌∙◌, arith}
use Rattle.slices.proofs.Choices.{other}
use Rattle.image.specs.declared.Reply.{Reply}
use Rattle.image.proofs.Calls.{copy_fits, blocks_hold, blocks_needed, read-refused, read-bad, read-fine}
use Rattle.refusals.proofs.Laws.{refused_by}
use Rattle.image.proofs.read.Goals as goal

pub returns-in-Err : goal.returns-in-Err
returns-in-Err c =
    let r = c.in-Err.refusal in
    let o = read-refused _ _ _ r c.in-Err.ensures in
    record { answer = c.refused.ensures ∙ o; memory = other _ _ _ (λ z. refused_by r (ap (λ (k : Reply). k.answer) o ∙ z)) }

pub returns-in-Some : goal.returns-in-Some
returns-in-Some c =
    let o = read-bad _ _ _ (sym c.in_default.ensures) c.in-Some.place c.in-Some.ensures in
    record { answer = c.refused-in-Some.ensures ∙ o; memory = other _ _ _ (λ z. let q : ◌≡◌ {A = ℕ} 33 0 = ap (λ (k : Reply). k.answer) o ∙ z in omega arith) }

pub read_all-requires : goal.read_all-requires
read_all-requires c =
    let t = copy_fits _ _ _ (sym c.in_default.ensures) in
    let h = blocks_hold c.args.part in
    let k = blocks_needed c.args.part in
    (omega arith, omega arith)

pub returns : goal.returns
returns c =
    let o = read-fine _ _ _ (sym c.in_default.ensures) (sym c.in_default-first_bad.ensures) in
    record { answer = o; memory = rw (← o) c.read_all.ensures }
