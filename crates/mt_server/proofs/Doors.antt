-- What one call at a door leaves.
use Rattle.std.proofs.Common.{◌≡◌, ℕ, ◌+◌, Bool, List, [], ◌∷◌, ◌++◌, Option, Some, None, true, false, refl, ap, sym, ◌∙◌, arith, append-nil}
use Rattle.std.specs.Prelude.{if◌then◌else◌, is_some, option_map}
use Rattle.mt_edge.specs.Doors.{Comes, as_count}
use Rattle.mt_edge.specs.declared.next.Next.TheVariants as next
use Rattle.mt_connection.specs.declared.end.ConnectionEnd.{ConnectionEnd}
use Rattle.mt_runner.specs.declared.turn.Turn.{Turn}
use Rattle.mt_server.specs.Events.{DoorSide, Had, Passed, Round, Woke, door_side}
use Rattle.mt_server.proofs.Following.{none_back, none_taken}

given_by : {L : Type 0} (r : Bool) (link : L) (back : Option (List L)) → option_map (λ links. if r then links ++ link ∷ [] else links) back ≡ option_map (λ links. links ++ (if r then link ∷ [] else [])) back
given_by true link back = refl
given_by false link None = refl
given_by false link (Some links) = ap Some (sym (append-nil links))

none_is : {L : Type 0} (w : Option (List L)) → w ≡ None → is_some w ≡ true → ⊥
none_is w is told = let no : is_some w ≡ false = ap is_some is in cc

first_told : {L : Type 0} (link : L) (w : Option (List L)) → is_some (option_map (λ rest. link ∷ rest) w) ≡ is_some w
first_told link None = refl
first_told link (Some w) = refl

-- a link had its turn and was given back: what it was before the call, when the turn began, and behind it
module _ {L : Type 0} (w b w1 b1 w2 b2 : Option (List L)) (t o k f t1 o1 k1 f1 t2 o2 f2 : ℕ) (link given : L) (r : Bool) (end : ConnectionEnd) where
  pub passed_new : (fresh : Bool) → Comes fresh w t k f (next.New link) w1 t1 k1 f1 → b1 ≡ b → o1 ≡ o → (is_some w1 ≡ true → r ≡ true) → o2 ≡ o1 + as_count r → b2 ≡ option_map (λ links. if r then links ++ given ∷ [] else links) b1
      → (w2 ≡ w1) × (t2 ≡ t1) × (f2 ≡ f1) → Passed (door_side w b t o f) (Had (record { taken = link; given = given; first = true; over = r; end = end; drain = None }) ∷ []) (door_side w2 b2 t2 o2 f2)
  passed_new fresh came same_back same_over whole over back stays = record {
    whole = λ told. (refl, whole (sym (first_told link w1) ∙ (sym (ap is_some came.1) ∙ told)), tt);
    taken = came.1 ∙ ap (option_map (λ rest. link ∷ rest)) (sym stays.0);
    back = back ∙ (given_by r given b1 ∙ ap (option_map (λ links. links ++ (if r then given ∷ [] else []))) same_back);
    count = omega (arith, came.2, stays.1);
    over = omega (arith, over, same_over);
    faults = let later = came.4 in omega (arith, later, stays.2);
  }

  pub passed_again : (fresh : Bool) → Comes fresh w t k f (next.Again link) w1 t1 k1 f1 → b1 ≡ b → o1 ≡ o → o2 ≡ o1 + as_count r → b2 ≡ option_map (λ links. if r then links ++ given ∷ [] else links) b1
      → (w2 ≡ w1) × (t2 ≡ t1) × (f2 ≡ f1) → Passed (door_side w b t o f) (Had (record { taken = link; given = given; first = false; over = r; end = end; drain = None }) ∷ []) (door_side w2 b2 t2 o2 f2)
  passed_again fresh came same_back same_over over back stays = record {
    whole = λ told. absurd (none_is w came.0 told);
    taken = came.0 ∙ ap (option_map (λ rest. link ∷ rest)) (sym (stays.0 ∙ (came.1 ∙ came.0)));
    back = back ∙ (given_by r given b1 ∙ ap (option_map (λ links. links ++ (if r then given ∷ [] else []))) same_back);
    count = omega (arith, came.2, stays.1);
    over = omega (arith, over, same_over);
    faults = let later = came.4 in omega (arith, later, stays.2);
  }

-- no link came
module _ {L : Type 0} (w b w1 b1 : Option (List L)) (t o k f t1 o1 k1 f1 : ℕ) (fresh : Bool) where
  pub passed_woke : Comes fresh w t k f next.Woken w1 t1 k1 f1 → b1 ≡ b → o1 ≡ o → (last : Turn) → Passed (door_side w b t o f) (Woke last ∷ []) (door_side w1 b1 t1 o1 f1)
  passed_woke came same_back same_over last = record {
    whole = λ told. absurd (none_is w came.0 told);
    taken = sym came.1 ∙ none_taken w1;
    back = same_back ∙ none_back b;
    count = omega (arith, came.2);
    over = omega (arith, same_over);
    faults = let later = came.4 in omega (arith, later);
  }

  pub passed_none : Comes fresh w t k f next.Failed w1 t1 k1 f1 → b1 ≡ b → o1 ≡ o → Passed (door_side w b t o f) [] (door_side w1 b1 t1 o1 f1)
  passed_none came same_back same_over = record {
    whole = λ told. tt;
    taken = sym came.1 ∙ none_taken w1;
    back = same_back ∙ none_back b;
    count = omega (arith, came.2);
    over = omega (arith, same_over);
    faults = let later = came.4 in omega (arith, later);
  }

-- the links are the same with a drain behind the turn
pub passed_drain : {L : Type 0} (old : DoorSide L) (x : Round L) (drain : Option Turn) (new : DoorSide L) → Passed old (Had x ∷ []) new → Passed old (Had (record x { drain = drain }) ∷ []) new
passed_drain old x drain new p = record { whole = p.whole; taken = p.taken; back = p.back; count = p.count; over = p.over; faults = p.faults }
