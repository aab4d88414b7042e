use Rattle.std.proofs.Common.{◌≡◌, ℕ, List, IfOk, length, subst, sym, ap, ◌∙◌}
use Rattle.std.specs.List.{flat_map}
use Rattle.mt_path.specs.AccountPath.{path_text}
use Rattle.mt_jobtext.specs.JobTexts.{line}
use Rattle.mt_jobtext.specs.Pieces.{output_lines}
use Rattle.mt_jobtext.proofs.Joined.{inputs_are, outputs_are}
use Rattle.mt_jobtext.proofs.sizes.joined_len.Goals as goal

pub returns-in-In : goal.returns-in-In
returns-in-In g c =
    let login = c.args.shown.now.login.now in
    subst (λ (text : List ℕ). IfOk c.items_len.result (λ n. n ≡ length text))
    (ap (flat_map (λ i. line (path_text login i.name))) c.as_slice.ensures ∙ sym (inputs_are c.args.shown.now c.in-In.is))
    c.items_len.ensures

pub returns-in-Out : goal.returns-in-Out
returns-in-Out g c =
    let login = c.args.shown.now.login.now in
    subst (λ (text : List ℕ). IfOk c.outputs_len.result (λ n. n ≡ length text))
    ((λ k. flat_map (output_lines login (c.len.ensures k)) (c.as_slice-in-Out.ensures k)) ∙ sym (outputs_are c.args.shown.now c.in-Out.is))
    c.outputs_len.ensures
