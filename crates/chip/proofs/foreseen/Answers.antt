-- `chip::foreseen` meets its contract.
use mathlib.Core.List.{[]}
use mathlib.Core.Path.{ap, ◌∙◌}
use native.Mathlib.Omega.{arith}
use Rattle.chip.specs.declared.Done.{Done}
use Rattle.chip.specs.declared.answers.Verdict.TheVariants.{Executed}
use Rattle.chip.specs.Outcome.{outcome_of}
use Rattle.chip.proofs.Laws.{executed_short, verdict-so, first-le, count-le, foreseen-by, span-at}
use Rattle.chip.proofs.foreseen.Goals as goal

pub executed-requires : goal.executed-requires
executed-requires c =
    let a = c.args in
    let h = executed_short _ _ _ _ _ _ (verdict-so a.device a.array a.sent.now a.pulses a.w a.response _ c.read-asked.ensures c.judge.ensures ∙ c.in-Executed.is) in
    let s = span-at a.device a.sent.now _ c.read-asked.ensures c.span_driven-span.ensures [] in
    (omega (arith, h, s.0, first-le a.device [] a.sent.now), omega (arith, h, s.1, count-le a.device [] a.sent.now))

pub returns-in-Executed : goal.returns-in-Executed
unfolding outcome_of
returns-in-Executed c =
    let a = c.args in
    let i = c.read-asked.ensures in
    let done = c.executed.ensures in
    foreseen-by a.device a.array a.sent.now a.pulses a.w a.response Executed (verdict-so a.device a.array a.sent.now a.pulses a.w a.response _ c.read-asked.ensures c.judge.ensures ∙ c.in-Executed.is)
    (ap (λ (o : Done). o.answer.missing) done)
    (λ xs r.
    let s = span-at a.device a.sent.now _ i c.span_driven-span.ensures xs in
    (ap (λ (o : Done). o.answer.number) done, ap (λ (o : Done). o.answer.first) done ∙ s.0, ap (λ (o : Done). o.answer.count) done ∙ s.1, ap (λ (o : Done). o.device) done ∙ rw i))
