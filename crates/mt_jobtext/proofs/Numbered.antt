-- The piece of a number, and the rest of a list that is searched.
use Rattle.std.proofs.Common.{◌≡◌, ℕ, suc, ◌+◌, ◌-◌, ◌<◌, ◌≤◌, List, [], ◌∷◌, map, length, get_or, refl, sym, ap, ◌∙◌, arith, length-append}
use Rattle.std.proofs.Math.ListN.{get_or-append}
use Rattle.std.proofs.Math.Seq.{get_or-append_right}
use Rattle.std.proofs.lemmas.List.{get_or-map}
use Rattle.mt_types.specs.declared.job.TraceEntry.{TraceEntry}
use Rattle.mt_jobtext.specs.Pieces.{adding_tasks, first_pieces, piece_at, pieces_of, task_piece}
use Rattle.mt_jobtext.specs.declared.pieces.Shown.{Shown}

length_map : {X Y : Type 0} (f : X → Y) (xs : List X) → length (map f xs) ≡ length xs
length_map f [] = refl
length_map f (x ∷ xs) = λ k. suc (length_map f xs k)

module _ {B : Type 0} (s : Shown B) where
  abbrev firsts : List (List ℕ)
  firsts = first_pieces s.login.now s.kept.now.job s.ending s.text

  abbrev tasks : List (TraceEntry B)
  tasks = adding_tasks s.kept.now.job s.text

  abbrev adds : TraceEntry B → List ℕ
  adds = task_piece s.login.now s.kept.now.job s.text

  pub pieces_count : length (pieces_of s) ≡ length firsts + length tasks
  unfolding pieces_of
  pieces_count = length-append firsts (map adds tasks) ∙ ap (λ n. length firsts + n) (length_map adds tasks)

  pub piece_first : (next : ℕ) → next < length firsts → get_or firsts next [] ≡ piece_at s next
  unfolding pieces_of
  piece_first next within = sym (get_or-append firsts (map adds tasks) [] next within)

  pub piece_task : (next : ℕ) (e : TraceEntry B) → length firsts ≤ next → next - length firsts < length tasks → e ≡ get_or tasks (next - length firsts) e → adds e ≡ piece_at s next
  unfolding pieces_of
  piece_task next e past within is =
      sym
      (get_or-append_right firsts (map adds tasks) next [] past
      ∙ get_or-map adds tasks (next - length firsts) e [] within
      ∙ ap adds (sym is))

  -- the same, where the tasks and the number of pieces in front of them are known
  pub piece_given : (next first : ℕ) (given : List (TraceEntry B)) (e : TraceEntry B) → first ≡ length firsts → given ≡ tasks → first ≤ next → next < length (pieces_of s) → e ≡ get_or given (next - first) e
      → adds e ≡ piece_at s next
  piece_given next first given e first_is given_is past there is =
      piece_task next e (omega arith) (omega (arith, pieces_count)) (is ∙ (λ k. get_or (given_is k) (next - first_is k) e))
