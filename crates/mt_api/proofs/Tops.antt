-- The answer to a request: from its steps to what is promised of it.
use Rattle.std.proofs.Common.{◌≡◌, ℕ, false, true, true≢false, inl, inr, ⊎_elim, List, Option, Some, None, refl, sym, ap, ◌∙◌, subst}
use Rattle.std.specs.Prelude.{IfSome, is_some, option_map}
use Rattle.std.proofs.lemmas.Option.{none-some, same_Some}
use Rattle.mt_base.specs.Lists.{IsPrefixOf}
use Rattle.mt_disk.specs.Files.{Files}
use Rattle.mt_opening.specs.Current.{EngineState, IsCurrent, Serves}
use Rattle.mt_opening.specs.History.{Bytes, History}
use Rattle.mt_http.proofs.Finishes.{over_after}
use Rattle.mt_http.specs.Body.{BodyState, Told, told_from}
use Rattle.mt_http.specs.BodyReading.{after_body, body_left}
use Rattle.mt_http.specs.declared.message.Ending.{Ending}
use Rattle.mt_http.specs.declared.message.Ending.TheVariants as ending
use Rattle.mt_http.specs.declared.stage.Stage.{Stage}
use Rattle.mt_http.specs.declared.stage.Stage.TheVariants as at
use Rattle.mt_model.specs.State.{State}
use Rattle.mt_api.specs.Answered.{Answers, Asked, EndsBody, Hears, said}
use Rattle.mt_api.specs.Steps.{Goes, IsAll, IsFront}
use Rattle.mt_api.specs.declared.answered.Answered.{Answered}
use Rattle.mt_api.specs.declared.answered.Answered.TheVariants as answered

all_said : (s : BodyState) (left : Option (List ℕ)) (bytes : Bytes) → IsAll (body_left s left) bytes → IfSome (said s left) (λ t. t.body ≡ bytes)
all_said s None bytes all = tt
all_said s (Some x) bytes all = all

front_said : (s : BodyState) (left : Option (List ℕ)) (bytes : Bytes) → IsFront (body_left s left) bytes → IfSome (said s left) (λ t. IsPrefixOf bytes t.body)
front_said s None bytes front = tt
front_said s (Some x) bytes front = front

left_over : (e f : Ending) (rest : List ℕ) (left' : Option (List ℕ)) → option_map {U = Ending × List ℕ} (λ (r : List ℕ). (e, r)) left' ≡ Some (f, rest) → (f ≡ e) × (left' ≡ Some rest)
left_over e f rest None is = absurd (none-some _ is)
left_over e f rest (Some r) is =
    let same = same_Some _ _ is in
    (sym (ap (λ (x : Ending × List ℕ). x.0) same), ap (λ (x : Ending × List ℕ). Some x.1) same)

module _ (s s' : BodyState) (left left' : Option (List ℕ)) (after : after_body s' left' ≡ after_body s left) where
  ends_at : (e : Ending) (bytes : List ℕ) → s'.stage ≡ at.Over e → after_body s' left' ≡ Some ((told_from s bytes).ending, (told_from s bytes).rest) → ((told_from s bytes).ending ≡ e) × (left' ≡ Some (told_from s bytes).rest)
  ends_at e bytes over is = left_over e (told_from s bytes).ending (told_from s bytes).rest left' (sym (over_after s' e left' over) ∙ is)

ends_said : (s s' : BodyState) (left left' : Option (List ℕ)) → after_body s' left' ≡ after_body s left → (e : Ending) → s'.stage ≡ at.Over e → IfSome (said s left) (λ t. (t.ending ≡ e) × (left' ≡ Some t.rest))
ends_said s s' None left' after e over = tt
ends_said s s' (Some bytes) left' after e over = ends_at s s' (Some bytes) left' after e bytes over after

pub hears_all : (result : Answered) (s s' : BodyState) (left left' : Option (List ℕ)) → after_body s' left' ≡ after_body s left → EndsBody result s'.stage → IfSome (said s left) (λ t. Hears result t left')
hears_all (answered.Replied reply) s s' left left' after over = ends_said s s' left left' after ending.Whole over
hears_all (answered.Unfinished e) s s' left left' after over = ends_said s s' left left' after e over.0
hears_all answered.SourceFault s s' None left' after over = tt
hears_all answered.SourceFault s s' (Some x) left' after over = tt
hears_all answered.Disk s s' None left' after over = tt
hears_all answered.Disk s s' (Some x) left' after over = tt
hears_all answered.Memory s s' None left' after over = tt
hears_all answered.Memory s s' (Some x) left' after over = tt

whole_said : (s s' : BodyState) (left left' : Option (List ℕ)) → after_body s' left' ≡ after_body s left → (bytes : Bytes) → IsAll (body_left s left) bytes → s'.stage ≡ at.Over ending.Whole
    → IfSome (said s left) (λ t. (t.body ≡ bytes) × (t.ending ≡ ending.Whole) × (left' ≡ Some t.rest))
whole_said s s' None left' after bytes all over = tt
whole_said s s' (Some x) left' after bytes all over =
    let ends = ends_at s s' (Some x) left' after ending.Whole x over after in
    (all, ends.0, ends.1)

-- what its steps do is what is promised
pub goes_answers : (result : Answered) (asked : Asked) (engine : EngineState) (base : State Bytes) (h : History) (s s' : BodyState) (left left' : Option (List ℕ)) (seen' : Option Files) (engine' : EngineState) (k : History)
    → asked.body ≡ said s left → after_body s' left' ≡ after_body s left → Goes result asked engine base h (body_left s left) s'.stage seen' engine' k → Answers result asked engine base h left' seen' engine' k
goes_answers (answered.Replied reply) asked engine base h s s' left left' seen' engine' k body after goes =
    (goes.0, subst (λ (o : Option Told). IfSome o (λ t. t.body ≡ goes.0)) (sym body) (all_said s left goes.0 goes.1), goes.2)
goes_answers (answered.Unfinished e) asked engine base h s s' left left' seen' engine' k body after goes =
    (goes.0, (goes.1.0, subst (λ (o : Option Told). IfSome o (λ t. t.body ≡ goes.1.0)) (sym body) (all_said s left goes.1.0 goes.1.1), goes.1.2))
goes_answers answered.SourceFault asked engine base h s s' left left' seen' engine' k body after goes =
    (goes.0, (goes.1.0, subst (λ (o : Option Told). IfSome o (λ t. IsPrefixOf goes.1.0 t.body)) (sym body) (front_said s left goes.1.0 goes.1.1), goes.1.2))
goes_answers answered.Disk asked engine base h s s' left left' seen' engine' k body after goes = (
  goes.0,
  ⊎_elim (λ at. inl at) (λ may. inr (record {
    bytes = may.0;
    whole = subst (λ (o : Option Told). IfSome o (λ t. (t.body ≡ may.0) × (t.ending ≡ ending.Whole) × (left' ≡ Some t.rest))) (sym body) (whole_said s s' left left' after may.0 may.1 may.2);
    history = may.3;
  })) goes.1,
)
goes_answers answered.Memory asked engine base h s s' left left' seen' engine' k body after goes = goes

-- an engine that goes on has a history
goes_current : (result : Answered) (asked : Asked) (engine : EngineState) (base : State Bytes) (h : History) (left : Option (List ℕ)) (stage' : Stage) (seen' : Option Files) (engine' : EngineState) (k : History)
    → Goes result asked engine base h left stage' seen' engine' k → engine'.log.closed ≡ false → (m : History) × IsCurrent seen' engine' base m
goes_current (answered.Replied reply) asked engine base h left stage' seen' engine' k goes is_open = (k, goes.2.current)
goes_current (answered.Unfinished e) asked engine base h left stage' seen' engine' k goes is_open = (h, goes.1.2.current)
goes_current answered.SourceFault asked engine base h left stage' seen' engine' k goes is_open = (h, goes.1.2.current)
goes_current answered.Disk asked engine base h left stage' seen' engine' k goes is_open = absurd (true≢false (sym goes.0 ∙ is_open))
goes_current answered.Memory asked engine base h left stage' seen' engine' k goes is_open = (h, goes.1 is_open)

tells_before : (seen : Option Files) → is_some seen ≡ true → (files : Files) × (seen ≡ Some files)
tells_before None is = absurd (true≢false (sym is))
tells_before (Some files) is = (files, refl)

pub serves_on : (result : Answered) (asked : Asked) (seen seen' : Option Files) (engine engine' : EngineState) (left : Option (List ℕ)) (stage' : Stage) → Serves seen engine → engine.log.closed ≡ false
    → (engine'.log.closed ≡ false → is_some seen' ≡ is_some seen)
    → ((base : State Bytes) (h : History) → IsCurrent seen engine base h → (k : History) × Goes result asked engine base h left stage' seen' engine' k)
    → Serves seen' engine'
serves_on result asked seen seen' engine engine' left stage' serves is_open told goes is_open' files is =
    let before = tells_before seen (sym (told is_open') ∙ ap is_some is) in
    let now = serves is_open before.0 before.1 in
    let reached = goes now.0 now.1 now.2 in
    let current = goes_current result asked engine now.0 now.1 left stage' seen' engine' reached.0 reached.1 is_open' in
    (now.0, current.0, current.1)
