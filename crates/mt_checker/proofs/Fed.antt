-- What is kept of items as more of them come.
use Rattle.std.proofs.Common.{◌≡◌, ℕ, ◌+◌, ◌%◌, ◌<◌, List, [], ◌∷◌, ◌++◌, length, map, set, get_or, Option, Some, None, refl, sym, ap, ◌∙◌, arith, zero, suc, append_assoc, append-nil, nat_eq, false}
use Rattle.std.specs.Cmp.Lexicographic.{pointwise}
use Rattle.std.specs.Option.{option_map_or}
use Rattle.std.specs.List.{range_with_len}
use Rattle.std.specs.declared.alloc.Global.{Global}
use Rattle.std.specs.declared.vec.Vec.{Vec}
use Rattle.std.proofs.lemmas.List.{length-map}
use Rattle.std.proofs.lemmas.List.FromFn.{length-range_with_len}
use Rattle.mt_types.specs.declared.document.PhaseKind.{PhaseKind}
use Rattle.mt_types.specs.declared.document.PhaseKind.TheVariants.{Map, Reduce}
use Rattle.mt_model.specs.Types.{AccountPath, Item}
use Rattle.mt_model.specs.Tasks.{reducer_of, task_count}
use Rattle.mt_feeds.specs.FedJob.{all_shares, share_numbers}
use Rattle.mt_feeds.specs.Opening.{with_place_read}
use Rattle.mt_feeds.proofs.Laid.{share_at, shares_push}
use Rattle.mt_certline.specs.Certificate.{reads_of}
use Rattle.mt_certline.specs.declared.line.Sum.{Sum}
use Rattle.mt_checker.specs.Feeds.{Feed, feed_of, names_in, names_with, reads_in, shares_in, shares_with, tasks_over, with_all, with_read}

-- a place is added to the list of its reducer, where there are lists
pub some_shares : (lists : List (Vec ℕ Global)) (r reducer count place : ℕ) (item : Item Sum) → r < length lists → count ≡ length lists → reducer ≡ reducer_of (place, item)
    → set (map (λ w. w.items) lists) (reducer % count) (get_or (map (λ w. w.items) lists) (reducer % count) [] ++ place ∷ []) ≡ shares_with place item (map (λ w. w.items) lists)
some_shares [] r reducer count place item less long is = absurd (omega (arith, less))
some_shares (l ∷ ls) r reducer count place item less long is =
    let all : List (List ℕ) = map (λ w. w.items) (l ∷ ls) in
    let same : count ≡ length all = long ∙ sym (length-map (l ∷ ls) (λ (w : Vec ℕ Global). w.items)) in
    ap (λ n. set all (n % count) (get_or all (n % count) [] ++ place ∷ [])) is
    ∙ ap (λ n. set all (reducer_of (place, item) % n) (get_or all (reducer_of (place, item) % n) [] ++ place ∷ [])) same

long_shares : (items : List (Item Sum)) (count : ℕ) → length (all_shares items count) ≡ count
long_shares items count = length-map (range_with_len 0 count) (share_numbers items count) ∙ length-range_with_len 0 count

some_with : (place : ℕ) (item : Item Sum) (lists : List (List ℕ)) (count : ℕ) → length lists ≡ count → 0 < count → shares_with place item lists ≡ with_place_read count place item lists
some_with place item [] count long some = let none : 0 ≡ count = long in absurd (omega (arith, none, some))
some_with place item (l ∷ ls) count long some = ap (λ n. with_place_read n place item (l ∷ ls)) long

shares_read : (kind : Option PhaseKind) (items : List (Item Sum)) (i : Item Sum) → shares_with (length items) i (shares_in kind items) ≡ shares_in kind (items ++ i ∷ [])
shares_read None items i = refl
shares_read (Some Map) items i = refl
shares_read (Some (Reduce zero)) items i = refl
shares_read (Some (Reduce (suc n))) items i =
    some_with (length items) i (all_shares items (suc n)) (suc n) (long_shares items (suc n)) (omega arith) ∙ sym (shares_push items i (suc n) (omega arith))

map_push : {A B : Type 0} (f : A → B) (xs : List A) (x : A) → map f xs ++ f x ∷ [] ≡ map f (xs ++ x ∷ [])
map_push f [] x = refl
map_push f (y ∷ ys) x = ap (λ l. f y ∷ l) (map_push f ys x)

long_push : {A : Type 0} (xs : List A) (x : A) → length xs + 1 ≡ length (xs ++ x ∷ [])
long_push [] x = omega arith
long_push (y ∷ ys) x = let more = long_push ys x in omega (arith, more)

names_read : (kind : Option PhaseKind) (items : List (Item Sum)) (i : Item Sum) → names_with kind i.name (names_in kind items) ≡ names_in kind (items ++ i ∷ [])
names_read None items i = map_push (λ j. j.name) items i
names_read (Some kind) items i = refl

abbrev feed_with : Option PhaseKind → ℕ → List (List ℕ) → List AccountPath → Feed
feed_with kind count shares names = record { kind = kind; count = count; shares = shares; names = names }

-- one item more
pub fed_one : (kind : Option PhaseKind) (items : List (Item Sum)) (i : Item Sum) → with_read (feed_of kind items) i ≡ feed_of kind (items ++ i ∷ [])
fed_one kind items i =
    ap (λ n. feed_with kind n (shares_with (length items) i (shares_in kind items)) (names_with kind i.name (names_in kind items))) (long_push items i)
    ∙ (ap (λ s. feed_with kind (length (items ++ i ∷ [])) s (names_with kind i.name (names_in kind items))) (shares_read kind items i)
    ∙ ap (feed_with kind (length (items ++ i ∷ [])) (shares_in kind (items ++ i ∷ []))) (names_read kind items i))

-- these items more
pub fed_all : (kind : Option PhaseKind) (items more : List (Item Sum)) → with_all (feed_of kind items) more ≡ feed_of kind (items ++ more)
fed_all kind items [] = ap (feed_of kind) (sym (append-nil items))
fed_all kind items (i ∷ more) =
    ap (λ f. with_all f more) (fed_one kind items i) ∙ (fed_all kind (items ++ i ∷ []) more ∙ ap (feed_of kind) (append_assoc items (i ∷ []) more))

pub with_all_push : (f : Feed) (xs : List (Item Sum)) (x : Item Sum) → with_all f (xs ++ x ∷ []) ≡ with_read (with_all f xs) x
with_all_push f [] x = refl
with_all_push f (y ∷ ys) x = with_all_push (with_read f y) ys x

-- the number of tasks over these items
pub tasks_are : (kind : PhaseKind) (items : List (Item Sum)) → tasks_over (Some kind) (length items) ≡ task_count kind items
tasks_are Map items = refl
tasks_are (Reduce count) items = refl

-- the places that the task at a place of the phase reads
pub reads_are : (kind : PhaseKind) (items : List (Item Sum)) (place : ℕ) (reads : List ℕ) → place < task_count kind items → reads_in (Some kind) (shares_in (Some kind) items) place reads ≡ pointwise nat_eq reads (reads_of kind items place)
reads_are Map items place reads within = refl
reads_are (Reduce count) items place reads within = ap (λ o. option_map_or (pointwise nat_eq reads) o false) (share_at items count place within)
