-- What was read of a message: its head, the interim reply behind it, and its body.
use Rattle.std.proofs.Common.{◌≡◌, ℕ, List, [], ◌++◌, Option, Some, None, option_map, Bool, true, false, inl, inr, refl, ap, sym, subst, ◌∙◌, append_assoc, append-nil, cond, ◌⊎◌}
use Rattle.std.specs.Prelude.{IfSome, is_some}
use Rattle.std.proofs.lemmas.Option.{IfSome_then}
use Rattle.mt_base.specs.Lists.{IsPrefixOf}
use Rattle.mt_edge.specs.Stream.{LeftAfter, GotMore}
use Rattle.mt_edge.proofs.Streams.{got_nothing, if_some_before, left_after}
use Rattle.mt_opening.specs.History.{Bytes}
use Rattle.mt_http.specs.Body.{BodyState, Told, first_state, told_from}
use Rattle.mt_http.specs.Framing.{EndsInHead, HasBadHead, HasLongHead, IsRequestHeadOf, Place, PlaceAt, RequestAt, SpellsHead, limit_of}
use Rattle.mt_http.specs.Messages.{HasNoRequest, InterimAt}
use Rattle.mt_http.specs.Options.{interim, interim_line, wants_interim}
use Rattle.mt_http.specs.declared.message.Ending.TheVariants.{Whole}
use Rattle.mt_http.specs.declared.message.Head.{Head}
use Rattle.mt_http.proofs.Heads.{head_is_one}
use Rattle.mt_http.proofs.LocalBodies.{whole_is_local}
use Rattle.mt_connection.specs.Endings.{IsInterim, Unanswered}
use Rattle.mt_connection.specs.Sides.{Sides}
use Rattle.mt_connection.specs.Transcript.{SpellsBoth}

pub all_some : {A : Type 0} (o : Option A) {P : A → Type 0} → ((a : A) → P a) → IfSome o P
all_some None f = tt
all_some (Some a) f = f a

pub of_mapped : {A B : Type 0} (f : A → B) (o : Option A) (P : B → Type 0) → IfSome (option_map f o) P → IfSome o (λ x. P (f x))
of_mapped f None P h = tt
of_mapped f (Some x) P h = h

pub both_some : {A : Type 0} (o : Option A) (P Q : A → Type 0) → IfSome o P → IfSome o Q → IfSome o (λ x. P x × Q x)
both_some None P Q p q = tt
both_some (Some x) P Q p q = (p, q)

-- what tells nothing goes on so
pub none_after : {A B : Type 0} (f g : A → B) (left left' : Option A) → option_map f left' ≡ option_map g left → left ≡ None → left' ≡ None
none_after f g left None same none = refl
none_after f g left (Some x) same none = let no : Some (f x) ≡ None = same ∙ ap (option_map g) none in absurd (cc)

-- the interim reply is its line or nothing
pub interim_either : (head : Head) → (interim head ≡ []) ⊎ (interim head ≡ interim_line)
interim_either head = elim (wants_interim head) as (λ b. (cond {A = List ℕ} b interim_line [] ≡ []) ⊎ (cond {A = List ℕ} b interim_line [] ≡ interim_line)) [ true ↦ inr refl | false ↦ inl refl ]

interim_part : (head : Head) → IsPrefixOf (interim head) interim_line
interim_part head = elim (wants_interim head) as (λ b. IsPrefixOf (cond {A = List ℕ} b interim_line []) interim_line) [ true ↦ ([], append-nil interim_line) | false ↦ (interim_line, refl) ]

pub interim_wanted : (head : Head) → wants_interim head ≡ true → interim head ≡ interim_line
interim_wanted head wanted = ap (λ (b : Bool). cond {A = List ℕ} b interim_line []) wanted

-- behind a head that was read
module _ (before at : Option Bytes) (head : Head) (used : Bytes) (gone : LeftAfter before used at) (spelled : SpellsHead used head) where
  -- it stands at the front, before what is left
  pub head_at : (P : Bytes → Type 0) → IfSome at P → IfSome before (λ bytes. (rest : Bytes) × RequestAt bytes head rest × P rest)
  head_at P p = if_some_before (λ bytes. (rest : Bytes) × RequestAt bytes head rest × P rest) before used at gone (IfSome_then at p (λ rest is. (rest, spelled rest, is)))

  pub interim_at : IfSome before (λ bytes. InterimAt bytes (interim head))
  interim_at = if_some_before (λ bytes. InterimAt bytes (interim head)) before used at gone (all_some at (λ rest. inl (head, rest, spelled rest, refl)))

  pub is_interim : IsInterim before (interim head)
  is_interim = (interim_either head, interim_at)

  wanted_for : (interim head ≡ []) ⊎ IfSome before (λ bytes. InterimAt bytes interim_line)
  wanted_for = elim (interim_either head) [ inl none ↦ inl none | inr line ↦ inr (subst (λ (text : Bytes). IfSome before (λ bytes. InterimAt bytes text)) line interim_at) ]

  -- nothing was added, and the interim reply was written
  pub unanswered : (old new : Sides) → old.left ≡ before → GotMore old.got (interim head) new.got → new.history ≡ old.history → (u : Unanswered old new) × (u.sent ≡ interim head)
  unanswered old new same sink history = (
    record {
      sent = interim head;
      sink = sink;
      part = interim_part head;
      asked_for = elim wanted_for [ inl none ↦ inl none | inr line ↦ inr (subst (λ (left : Option Bytes). IfSome left (λ bytes. InterimAt bytes interim_line)) (sym same) line) ];
      history = history;
    },
    refl,
  )

  -- a front of the interim reply was written
  pub said_early : (old new : Sides) (written : Bytes) → old.left ≡ before → wants_interim head ≡ true → IsPrefixOf written interim_line → GotMore old.got written new.got → new.history ≡ old.history → Unanswered old new
  said_early old new written same wanted front sink history =
      let line = subst (λ (text : Bytes). IfSome before (λ bytes. InterimAt bytes text)) (interim_wanted head wanted) interim_at in
      record { sent = written; sink = sink; part = front; asked_for = inr (subst (λ (left : Option Bytes). IfSome left (λ bytes. InterimAt bytes interim_line)) (sym same) line); history = history }

-- a message whose body is whole
pub message_read : (before at new : Option Bytes) (head : Head) (used : Bytes) → LeftAfter before used at → SpellsHead used head
    → IfSome (option_map (told_from (first_state head.framing (limit_of head))) at) (λ t. (t.ending ≡ Whole) × (new ≡ Some t.rest)) → (at ≡ None → new ≡ None)
    → (read : Bytes) × LeftAfter before read new × ((body : Bytes) → IfSome (option_map (told_from (first_state head.framing (limit_of head))) at) (λ t. t.body ≡ body) → is_some before ≡ true → SpellsBoth read head body)
message_read before None new head used gone spelled whole none =
    (used, gone ∙ ap (option_map (λ (rest : Bytes). used ++ rest)) (sym (none refl)), λ body is heard. let no : false ≡ true = sym (ap is_some gone) ∙ heard in absurd (cc))
message_read before (Some bytes) new head used gone spelled whole none =
    let s : BodyState = first_state head.framing (limit_of head) in
    let t : Told = told_from s bytes in
    let local = whole_is_local s bytes t.body t.rest (ap (λ e. record { body = t.body; ending = e; rest = t.rest }) whole.0) in (
      used ++ local.0,
      left_after before used (Some bytes) local.0 new gone (ap Some local.1 ∙ ap (option_map (λ (rest : Bytes). local.0 ++ rest)) (sym whole.1)),
      λ body is heard rest. (
        local.0 ++ rest,
        subst (λ (xs : Bytes). RequestAt xs head (local.0 ++ rest)) (sym (append_assoc used local.0 rest)) (spelled (local.0 ++ rest)),
        local.2 rest ∙ ap (λ (b : Bytes). record { body = b; ending = Whole; rest = rest }) is,
      ),
    )

-- no head is read where it is not whole, too long, or none
pub no_request_in : (bytes : Bytes) → EndsInHead bytes → HasNoRequest bytes
no_request_in bytes e head rest r = e.no_head r.text rest r.stands

pub no_request_long : (bytes : Bytes) → HasLongHead bytes → HasNoRequest bytes
no_request_long bytes e head rest r = e.no_head r.text rest r.stands

no_request_bad : (bytes : Bytes) → HasBadHead bytes → HasNoRequest bytes
no_request_bad bytes bad head rest r =
    let same = head_is_one bytes r.text rest bad.text bad.rest r.stands bad.stands in
    none_is_some head (sym (bad.refused r.h (subst (λ (text : List ℕ). IsRequestHeadOf text r.h) same.0 r.reads)) ∙ r.says)
  where
    none_is_some : (h : Head) → ◌≡◌ {A = Option Head} None (Some h) → ⊥
    none_is_some h is = cc

pub no_request : (bytes : Bytes) → HasLongHead bytes ⊎ HasBadHead bytes → HasNoRequest bytes
no_request bytes (inl long) = no_request_long bytes long
no_request bytes (inr bad) = no_request_bad bytes bad

pub no_interim : (bytes : Bytes) → HasNoRequest bytes → InterimAt bytes []
no_interim bytes none = inr (none, refl)

pub bad_place : (bytes : Bytes) → HasLongHead bytes ⊎ HasBadHead bytes → PlaceAt bytes Place.Bad
unfolding PlaceAt
bad_place bytes bad = inl bad

pub cut_place : (bytes : Bytes) → EndsInHead bytes → PlaceAt bytes Place.Truncated
unfolding PlaceAt
cut_place bytes cut = inl cut

-- nothing was added or written
abbrev pub nothing_said : (old new : Sides) → new.got ≡ old.got → new.history ≡ old.history → Unanswered old new
nothing_said old new same history = record {
  sent = [];
  sink = subst (λ (got : Option Bytes). GotMore old.got [] got) (sym same) (got_nothing old.got);
  part = (interim_line, refl);
  asked_for = inl refl;
  history = history;
}
