-- The lines of a certificate, one part behind the other.
use Rattle.std.proofs.Common.{◌≡◌, ℕ, List, [], ◌∷◌, ◌++◌, map, sym, ap, subst, ◌∙◌, append_assoc}
use Rattle.mt_model.specs.Types.{Body, Job}
use Rattle.mt_certline.specs.Certificate.{lines_of}
use Rattle.mt_certline.specs.declared.line.Line.{Line}
use Rattle.mt_certline.specs.declared.line.Line.TheVariants.{Begin, End, Input, Output, Task}
use Rattle.mt_cert.specs.Putting.{Out, PutsTo}
use Rattle.mt_cert.specs.Reading.{certificate_in, input_lines}
use Rattle.mt_cert.proofs.Parts.{inputs_listed}
use Rattle.mt_cert.proofs.Puttings.{GoesOn}

abbrev pub end_part : List Line
end_part = End ∷ []

module _ (job : Job Body) where
  abbrev pub begin_part : List Line
  begin_part = Begin job.number job.document.phases ∷ []

  abbrev pub tasks_part : List Line
  tasks_part = map (λ l. Task l) (certificate_in job).tasks

  abbrev pub outputs_part : List Line
  outputs_part = map (λ p. Output p) (certificate_in job).outputs

  pub whole_is : lines_of (certificate_in job) ≡ begin_part ++ (input_lines job.inputs ++ (tasks_part ++ (outputs_part ++ end_part)))
  whole_is =
      let inputs : List Line = map (λ i. Input i) (certificate_in job).inputs in
      ap (λ l. Begin job.number job.document.phases ∷ l)
      (append_assoc (inputs ++ tasks_part) outputs_part end_part
      ∙ (append_assoc inputs tasks_part (outputs_part ++ end_part)
      ∙ ap (λ l. l ++ (tasks_part ++ (outputs_part ++ end_part))) (sym (inputs_listed job))))

  abbrev pub rest3 : List Line
  rest3 = outputs_part ++ end_part

  abbrev pub rest2 : List Line
  rest2 = tasks_part ++ rest3

  abbrev pub rest1 : List Line
  rest1 = input_lines job.inputs ++ rest2

-- all of it is left
pub start : (login : List ℕ) (job : Job Body) (x : Out) → GoesOn login (lines_of (certificate_in job)) (begin_part job ++ rest1 job) x x
start login job x = λ r z q. subst (λ t. PutsTo login t r x z) (sym (whole_is job)) q
