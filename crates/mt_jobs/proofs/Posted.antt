-- Posted lines leave all of a job but its inputs and missing lines.
use Rattle.std.proofs.Common.{◌≡◌, false, List, [], ◌∷◌, length, map, Option, Some, None, refl, sym, ap, ◌∙◌}
use Rattle.std.specs.List.{slice_get}
use Rattle.mt_path.specs.AccountPath.{AccountPath}
use Rattle.mt_types.specs.declared.document.InputLine.{InputLine}
use Rattle.mt_types.specs.declared.document.InputLine.TheVariants.{Named, Other}
use Rattle.mt_types.specs.declared.document.JobDocument.{JobDocument}
use Rattle.mt_types.specs.declared.job.Job.{Job}
use Rattle.mt_types.specs.declared.object.Object.{Object}
use Rattle.mt_model.specs.JobSteps.{with_line, with_lines, with_named}
use Rattle.mt_model.specs.Rows.{Rows, object_at}
use Rattle.mt_feeds.specs.declared.kept.FedJob.{FedJob}
use Rattle.mt_feeds.specs.FedJob.{IsKept, index_of, lists_of}
use Rattle.mt_feeds.proofs.Opened.{none_before}

module _ {B : Type 0} where
  -- the second job is the first but for its inputs and missing lines
  pub record KeepsRest (a b : Job B) : Type 0 where
    pub number : b.number ≡ a.number
    pub document : b.document ≡ a.document
    pub ended : b.ended ≡ a.ended
    pub done : b.done ≡ a.done
    pub trace : b.trace ≡ a.trace

  same_rest : (a : Job B) → KeepsRest a a
  same_rest a = record { number = refl; document = refl; ended = refl; done = refl; trace = refl }

  rest_then : (a b c : Job B) → KeepsRest a b → KeepsRest b c → KeepsRest a c
  rest_then a b c p q = record {
    number = q.number ∙ p.number;
    document = q.document ∙ p.document;
    ended = q.ended ∙ p.ended;
    done = q.done ∙ p.done;
    trace = q.trace ∙ p.trace;
  }

  named_rest : (p : AccountPath) (job : Job B) (o : Option (Object B)) → KeepsRest job (with_named p job o)
  named_rest p job None = record { number = refl; document = refl; ended = refl; done = refl; trace = refl }
  named_rest p job (Some object) = record { number = refl; document = refl; ended = refl; done = refl; trace = refl }

  pub line_rest : (rows : Rows B) (job : Job B) (line : InputLine) → KeepsRest job (with_line rows job line)
  line_rest rows job (Named p) = named_rest p job (object_at rows p)
  line_rest rows job (Other text) = record { number = refl; document = refl; ended = refl; done = refl; trace = refl }

  pub lines_rest : (rows : Rows B) (lines : List InputLine) (job : Job B) → KeepsRest job (with_lines rows lines job)
  lines_rest rows [] job = same_rest job
  lines_rest rows (l ∷ ls) job = rest_then job (with_line rows job l) (with_lines rows ls (with_line rows job l)) (line_rest rows job l) (lines_rest rows ls (with_line rows job l))

  -- what is kept stays right, while the input has not ended
  pub kept_posted : (k new : FedJob B) → IsKept k → KeepsRest k.job new.job → new.feeds ≡ k.feeds → new.shares ≡ k.shares → k.job.ended ≡ false → IsKept new
  kept_posted k new is rest feeds shares so_far = record {
    feeds = record {
      each = ap (λ f. length f.items) feeds ∙ is.feeds.each ∙ ap (λ (d : JobDocument). length d.phases) (sym rest.document);
      noted = λ n f found. is.feeds.noted n f (ap (λ v. slice_get v.items n) (sym feeds) ∙ found) ∙ ap (index_of n) (sym rest.trace);
    };
    shares = record {
      each = ap (λ s. length (map lists_of s.items)) shares ∙ is.shares.each ∙ ap (λ (d : JobDocument). length d.phases) (sym rest.document);
      right = λ n p lists at found.
          is.shares.right n p lists (ap (λ (d : JobDocument). slice_get d.phases n) (sym rest.document) ∙ at) (ap (λ s. slice_get (map lists_of s.items) n) (sym shares) ∙ found)
          ∙ none_before k.job n p so_far ∙ sym (none_before new.job n p (rest.ended ∙ so_far));
    };
  }
