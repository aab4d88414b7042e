-- What was read of a body, and what was left of it.
use Rattle.std.proofs.Common.{◌≡◌, ◌≢◌, ℕ, List, [], ◌++◌, Option, Some, None, refl, sym, ap, ◌∙◌, subst, append_assoc, append-nil, arith}
use Rattle.std.specs.Prelude.{option_map}
use Rattle.mt_body.specs.Filling.{AtEnd}
use Rattle.mt_edge.specs.Stream.{LeftAfter}
use Rattle.mt_http.specs.Body.{BodyState}
use Rattle.mt_http.specs.BodyReading.{Finished}
use Rattle.mt_http.specs.Further.{BodyGoesOn}
use Rattle.mt_http.specs.declared.message.Ending.{Ending}
use Rattle.mt_http.specs.declared.message.Ending.TheVariants as ending
use Rattle.mt_http.specs.declared.stream.BodyStream.{BodyStream}
use Rattle.mt_api.specs.Steps.{EndsSo, IsAll, IsFront, ReadsSo, end_of}
use Rattle.mt_api.specs.declared.bodies.BodyEnd.{BodyEnd}
use Rattle.mt_api.specs.declared.bodies.BodyEnd.TheVariants as body_end

all_behind : (left : Option (List ℕ)) (first more : List ℕ) → IsAll left more → IsAll (option_map (λ rest. first ++ rest) left) (first ++ more)
all_behind None first more all = tt
all_behind (Some r) first more all = ap (λ (x : List ℕ). first ++ x) all

-- all of a body behind bytes that were read of it
pub all_after : (left left' : Option (List ℕ)) (first more : List ℕ) → LeftAfter left first left' → IsAll left' more → IsAll left (first ++ more)
all_after left left' first more took all = subst (λ (o : Option (List ℕ)). IsAll o (first ++ more)) (sym took) (all_behind left' first more all)

front_behind : (left : Option (List ℕ)) (first more : List ℕ) → IsFront left more → IsFront (option_map (λ rest. first ++ rest) left) (first ++ more)
front_behind None first more is = tt
front_behind (Some r) first more is = (is.0, append_assoc first more is.0 ∙ ap (λ (x : List ℕ). first ++ x) is.1)

pub front_after : (left left' : Option (List ℕ)) (first more : List ℕ) → LeftAfter left first left' → IsFront left' more → IsFront left (first ++ more)
front_after left left' first more took is = subst (λ (o : Option (List ℕ)). IsFront o (first ++ more)) (sym took) (front_behind left' first more is)

-- a body that has ended
pub all_ended : (left left' : Option (List ℕ)) (bytes : List ℕ) → LeftAfter left bytes left' → AtEnd left' → IsAll left bytes
all_ended left left' bytes took ended = subst (λ (x : List ℕ). IsAll left x) (append-nil bytes) (all_after left left' bytes [] took ended)

none_front : (left : Option (List ℕ)) → IsFront left []
none_front None = tt
none_front (Some r) = (r, refl)

pub front_of : (left left' : Option (List ℕ)) (bytes : List ℕ) → LeftAfter left bytes left' → IsFront left bytes
front_of left left' bytes took = subst (λ (x : List ℕ). IsFront left x) (append-nil bytes) (front_after left left' bytes [] took (none_front left'))

pub all_front : (left : Option (List ℕ)) (bytes : List ℕ) → IsAll left bytes → IsFront left bytes
all_front None bytes all = tt
all_front (Some r) bytes all = ([], append-nil bytes ∙ sym all)

-- what is told of a body, where it is
pub said_all : (left : Option (List ℕ)) → (bytes : List ℕ) × IsAll left bytes
said_all None = ([], tt)
said_all (Some r) = (r, refl)

-- a body all of which was read has ended so
pub reads_so : (r : BodyEnd) (left : Option (List ℕ)) (bytes : List ℕ) → IsAll left bytes → ReadsSo r left bytes
reads_so body_end.Whole left bytes all = all
reads_so (body_end.Unfinished e) left bytes all = all
reads_so body_end.SourceFault left bytes all = all_front left bytes all
reads_so body_end.Endless left bytes all = tt

-- and so has one behind bytes that were read before
pub reads_after : (r : BodyEnd) (left left' : Option (List ℕ)) (first more : List ℕ) → LeftAfter left first left' → ReadsSo r left' more → ReadsSo r left (first ++ more)
reads_after body_end.Whole left left' first more took is = all_after left left' first more took is
reads_after (body_end.Unfinished e) left left' first more took is = all_after left left' first more took is
reads_after body_end.SourceFault left left' first more took is = front_after left left' first more took is
reads_after body_end.Endless left left' first more took is = tt

-- a stream that was finished
pub ended_so : (s s' : BodyState) (left left' : Option (List ℕ)) (r : Option Ending) → Finished s left r s' left' → EndsSo (end_of r) s'.stage
ended_so s s' left left' None f = tt
ended_so s s' left left' (Some ending.Whole) f = f.0
ended_so s s' left left' (Some ending.Truncated) f = (f.0, λ (e : ending.Truncated ≡ ending.Whole). cc)
ended_so s s' left left' (Some ending.Bad) f = (f.0, λ (e : ending.Bad ≡ ending.Whole). cc)
ended_so s s' left left' (Some ending.TooLarge) f = (f.0, λ (e : ending.TooLarge ≡ ending.Whole). cc)

-- only a source that failed has no end
pub fault_none : (r : Option Ending) → end_of r ≡ body_end.SourceFault → r ≡ None
fault_none None is = refl
fault_none (Some ending.Whole) is = cc
fault_none (Some ending.Truncated) is = cc
fault_none (Some ending.Bad) is = cc
fault_none (Some ending.TooLarge) is = cc

pub never_endless : (r : Option Ending) → end_of r ≢ body_end.Endless
never_endless None is = cc
never_endless (Some ending.Whole) is = cc
never_endless (Some ending.Truncated) is = cc
never_endless (Some ending.Bad) is = cc
never_endless (Some ending.TooLarge) is = cc

-- a body is read further, and then further
module _ {X : Type 0} (left : X → Option (List ℕ)) (count : X → ℕ) (alone : X → X → Type 0) where
  pub read_further : ((a b c : X) → alone a b → alone b c → alone a c) → (a b c : BodyStream X) (f g : Type 0) → BodyGoesOn left count alone a b f → BodyGoesOn left count alone b c g → BodyGoesOn left count alone a c g
  read_further joined a b c f g first next = record {
    source = next.source ∙ first.source;
    stays = joined a.source.now b.source.now c.source.now first.stays next.stays;
    after = next.after ∙ first.after;
    reads = let x = first.reads in let y = next.reads in omega arith;
    failed = λ is. let x = first.reads in let y = next.failed is in omega arith;
  }

  -- whatever is answered, where nothing failed
  pub read_well : (a b : BodyStream X) (f g : Type 0) → ¬ g → BodyGoesOn left count alone a b f → BodyGoesOn left count alone a b g
  read_well a b f g not is = record { source = is.source; stays = is.stays; after = is.after; reads = is.reads; failed = λ x. absurd (not x) }

  pub read_as : (a b : BodyStream X) (f g : Type 0) → (g → f) → BodyGoesOn left count alone a b f → BodyGoesOn left count alone a b g
  read_as a b f g same is = record { source = is.source; stays = is.stays; after = is.after; reads = is.reads; failed = λ x. is.failed (same x) }
