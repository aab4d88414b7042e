use Rattle.std.proofs.Common.{◌≡◌, ◌+◌, ◌++◌, ◌∷◌, [], List, length, length-append, ap, subst, sym, arith}
use Rattle.std.specs.Prelude.{All}
use Rattle.std.proofs.lemmas.List.Elements.{All-push}
use Rattle.mt_types.specs.declared.body.Body.{Body}
use Rattle.mt_types.specs.declared.job.Item.{Item}
use Rattle.mt_model.specs.Lawful.{LawfulItem}
use Rattle.jobs_rows.proofs.taken.items.Goals as goal

pub loop-k-preserved : goal.loop-k-preserved
loop-k-preserved c =
    let before : List (Item Body) = c.loop-k.items.items in
    let pushed : c.push.new.self.items ≡ before ++ c.in_ok-item.field-0 ∷ [] = c.in_ok-push.ensures.items in
    let long : length c.push.new.self.items ≡ length (before ++ c.in_ok-item.field-0 ∷ []) = ap length pushed in
    let more : length (before ++ c.in_ok-item.field-0 ∷ []) ≡ length before + 1 = length-append before (c.in_ok-item.field-0 ∷ []) in
    record {
      few = omega (arith, long, more, c.loop-k.invariant.few);
      each = subst (λ (xs : List (Item Body)). All LawfulItem xs) (sym pushed) (All-push LawfulItem before c.in_ok-item.field-0 c.loop-k.invariant.each c.in_ok-item.ensures);
    }

pub returns-clause-each : goal.returns-clause-each
returns-clause-each c = subst (λ (xs : List (Item Body)). All LawfulItem xs) (sym c.from_vec.ensures) c.loop-k.invariant.each
