-- What a phase reads, as far as a checker keeps it.
use Rattle.std.specs.Prelude.{ℕ, ◌+◌, Bool, false, nat_eq, List, [], ◌∷◌, ◌++◌, length, map, slice_get, Option, Some, None}
use Rattle.std.specs.Cmp.Lexicographic.{pointwise}
use Rattle.std.specs.Option.{option_map_or}
use Rattle.mt_types.specs.declared.document.PhaseKind.{PhaseKind}
use Rattle.mt_types.specs.declared.document.PhaseKind.TheVariants.{Map, Reduce}
use Rattle.mt_model.specs.Types.{AccountPath, Item}
use Rattle.mt_feeds.specs.FedJob.{all_shares}
use Rattle.mt_feeds.specs.Opening.{with_place_read}
use Rattle.mt_certline.specs.declared.line.Sum.{Sum}

-- how the phase cuts it into tasks, none past the last one; the number of items; the places that each reducer reads; and the
-- names of the items
pub record Feed : Type 0 where
  pub kind : Option PhaseKind
  pub count : ℕ
  pub shares : List (List ℕ)
  pub names : List AccountPath

-- the places are kept of a reduce phase alone
abbrev pub shares_in : Option PhaseKind → List (Item Sum) → List (List ℕ)
shares_in None items = []
shares_in (Some Map) items = []
shares_in (Some (Reduce count)) items = all_shares items count

-- the names are kept of what no phase reads
abbrev pub names_in : Option PhaseKind → List (Item Sum) → List AccountPath
names_in None items = map (λ i. i.name) items
names_in (Some kind) items = []

-- what is kept of these items
abbrev pub feed_of : Option PhaseKind → List (Item Sum) → Feed
feed_of kind items = record { kind = kind; count = length items; shares = shares_in kind items; names = names_in kind items }

-- ---- one item more

abbrev pub shares_with : ℕ → Item Sum → List (List ℕ) → List (List ℕ)
shares_with place item [] = []
shares_with place item (s ∷ ss) = with_place_read (length (s ∷ ss)) place item (s ∷ ss)

abbrev pub names_with : Option PhaseKind → AccountPath → List AccountPath → List AccountPath
names_with None name names = names ++ name ∷ []
names_with (Some kind) name names = names

abbrev pub with_read : Feed → Item Sum → Feed
with_read f i = record { kind = f.kind; count = f.count + 1; shares = shares_with f.count i f.shares; names = names_with f.kind i.name f.names }

-- these items more
abbrev pub with_all : Feed → List (Item Sum) → Feed
with_all f [] = f
with_all f (i ∷ is) = with_all (with_read f i) is

-- ---- what is read of it

-- the number of tasks over it; none past the last phase
abbrev pub tasks_over : Option PhaseKind → ℕ → ℕ
tasks_over None count = 0
tasks_over (Some Map) count = count
tasks_over (Some (Reduce reducers)) count = reducers

-- a task lists the places that it reads
abbrev pub reads_in : Option PhaseKind → List (List ℕ) → ℕ → List ℕ → Bool
reads_in (Some Map) shares place reads = pointwise nat_eq reads (place ∷ [])
reads_in (Some (Reduce reducers)) shares place reads = option_map_or (pointwise nat_eq reads) (slice_get shares place) false
reads_in None shares place reads = false
