-- The meaning of phases over other bodies is the same.
use Rattle.std.proofs.Common.{◌≡◌, ℕ, ◌+◌, ◌==◌, nat_lt, cond, List, [], ◌∷◌, map, sym, ap, subst, ◌∙◌}
use Rattle.std.specs.Prelude.{All}
use Rattle.std.proofs.lemmas.List.Elements.{All-nil, All-cons, All-head, All-tail}
use Rattle.mt_types.specs.Values.{item_with, trace_entry_with}
use Rattle.mt_types.specs.declared.document.Phase.{Phase}
use Rattle.mt_types.specs.declared.document.PhaseKind.{PhaseKind}
use Rattle.mt_types.specs.declared.job.Item.{Item}
use Rattle.mt_types.specs.declared.job.TraceEntry.{TraceEntry}
use Rattle.mt_model.specs.Feed.{items_in}
use Rattle.mt_model.specs.Meaning.{IsEachTaskOnce, Means}
use Rattle.mt_model.proofs.Maps.{sum_by-map}
use Rattle.mt_model.proofs.TasksWith.{items_in-with, task_count_cases}

All-map : {X Y : Type 0} (P : X → Type 0) (Q : Y → Type 0) (g : X → Y) → ((x : X) → P x → Q (g x)) → (xs : List X) → All P xs → All Q (map g xs)
All-map P Q g each [] a = All-nil Q
All-map P Q g each (x ∷ xs) a = All-cons Q (g x) (map g xs) (each x (All-head P x xs a)) (All-map P Q g each xs (All-tail P x xs a))

module _ {A B : Type 0} (f : A → B) where
  once-with : (kind : PhaseKind) (items : List (Item A)) (es : List (TraceEntry A)) → IsEachTaskOnce kind items es → IsEachTaskOnce kind (map (item_with f) items) (map (trace_entry_with f) es)
  once-with kind items es once k =
      sum_by-map (trace_entry_with f) (λ e. cond (e.place == k) 1 0) es
      ∙ once k
      ∙ ap (λ n. cond (nat_lt k n) 1 0) (sym (task_count_cases f kind items))

  module _ (given : ℕ → Phase → List (Item A) → TraceEntry A → Type 0) (given' : ℕ → Phase → List (Item B) → TraceEntry B → Type 0)
      (each : (n : ℕ) (p : Phase) (items : List (Item A)) (e : TraceEntry A) → given n p items e → given' n p (map (item_with f) items) (trace_entry_with f e)) where
    again : (n : ℕ) (ps : List Phase) (items : List (Item B)) (es : List (List (TraceEntry B))) (out : List (Item B)) (items' : List (Item B)) → items ≡ items' → Means given' n ps items es out → Means given' n ps items' es out
    again n ps items es out items' e m = subst (λ is. Means given' n ps is es out) e m

    -- what the entries of each phase mean, they mean over other bodies
    pub means-with : (n : ℕ) (ps : List Phase) (items : List (Item A)) (es : List (List (TraceEntry A))) (out : List (Item A)) → Means given n ps items es out → Means given' n ps (map (item_with f) items) (map (map (trace_entry_with f)) es) (map (item_with f) out)
    means-with n [] items [] out m = ap (map (item_with f)) m
    means-with n [] items (e ∷ es) out m = absurd m
    means-with n (p ∷ ps) items [] out m = absurd m
    means-with n (p ∷ ps) items (e ∷ es) out m = (
      once-with p.kind items e m.0,
      All-map (given n p items) (given' n p (map (item_with f) items)) (trace_entry_with f) (each n p items) e m.1,
      again (n + 1) ps (map (item_with f) (items_in e)) (map (map (trace_entry_with f)) es) (map (item_with f) out) (items_in (map (trace_entry_with f) e)) (sym (items_in-with f e)) (means-with (n + 1) ps (items_in e) es out m.2),
    )
