-- How a body ended that was read to its end.
use Rattle.std.proofs.Common.{◌≡◌, ◌≢◌, ℕ, List, Option, Some, None, refl, ap, sym, subst, ◌∙◌}
use Rattle.std.specs.Prelude.{option_map}
use Rattle.mt_http.specs.Body.{BodyState, Told, ended}
use Rattle.mt_http.specs.BodyReading.{EndsBy, Finished, after_body}
use Rattle.mt_http.specs.declared.message.Ending.{Ending}
use Rattle.mt_http.specs.declared.stage.Stage.TheVariants as at
use Rattle.mt_http.proofs.Bodies.{told_over}
use Rattle.mt_http.proofs.BodyReadings.{end_after}

-- a body that is over ends so, and what is left follows it
pub over_after : (s : BodyState) (e : Ending) (left : Option (List ℕ)) → s.stage ≡ at.Over e → after_body s left ≡ option_map (λ rest. (e, rest)) left
over_after s e None is = refl
over_after s e (Some rest) is = ap (λ (t : Told). Some (t.ending, t.rest)) (told_over s e rest is)

pub finished : (s : BodyState) (left : Option (List ℕ)) (m : BodyState) (mid : Option (List ℕ)) (s' : BodyState) (left' : Option (List ℕ)) (result : Option Ending)
    → after_body m mid ≡ after_body s left → EndsBy m mid s' left' → result ≡ ended s'.stage → Finished s left result s' left'
finished s left m mid s' left' result kept by is =
    let some : result ≡ Some by.ending = is ∙ ap ended by.is_over in
    subst (λ (o : Option Ending). Finished s left o s' left') (sym some) (by.is_over, sym kept ∙ sym (end_after m mid s' left' by) ∙ over_after s' by.ending left' by.is_over)

-- it ended
pub never_none : (m : BodyState) (mid : Option (List ℕ)) (s' : BodyState) (left' : Option (List ℕ)) (result : Option Ending) → EndsBy m mid s' left' → result ≡ ended s'.stage → result ≢ None
never_none m mid s' left' result by is = λ none. let some : result ≡ Some by.ending = is ∙ ap ended by.is_over in cc

-- a body that was finished ends as it did before
pub finished_after : (s s' : BodyState) (left left' : Option (List ℕ)) (r : Option Ending) → Finished s left r s' left' → after_body s' left' ≡ after_body s left
finished_after s s' left left' None f = f
finished_after s s' left left' (Some e) f = over_after s' e left' f.0 ∙ sym f.1
