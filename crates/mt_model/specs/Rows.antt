-- What stands at the paths of an account, whatever a body is, and why a change of it is refused.
use Rattle.std.specs.Prelude.{◌≡◌, ◌==◌, Bool, true, false, List, [], ◌∷◌, length, Option, Some, None, IsSome, is_some, not, if◌then◌else◌}
use Rattle.std.specs.BTreeMap.{is_at, insert_entry}
use Rattle.std.specs.List.{filter}
use Rattle.std.specs.List.Sorted.{IsStrictlySortedBy}
use Rattle.std.specs.Map.{lookup, remove_entry, keys_of}
use Rattle.mt_model.specs.Types.{AccountPath, Area, DirectoryDoesNotExist, DirectoryNotEmpty, DirectoryOperation, EntityExists, Entry, Jobs, LinkNotFound, LinkNotObject, NotFound, Object, ParentNotDirectory, Public, Refusal, RootDirectory, Row, Stor, parent_of, root_of}
use Rattle.mt_path.specs.PathOrder.{path_cmp}
use Rattle.mt_types.specs.declared.object.Entry.TheVariants as entry

-- paths, each with what stands there, in the order of the paths
abbrev pub Rows : Type 0 → Type 0
Rows B = List (AccountPath × Entry B)

-- two paths are one
abbrev pub is_path : AccountPath → AccountPath → Bool
is_path p = is_at (path_cmp p)

-- the path above is this one
abbrev pub is_above : AccountPath → Option AccountPath → Bool
is_above d None = false
is_above d (Some q) = is_path d q

-- a path is one component below another
abbrev pub is_child : AccountPath → AccountPath → Bool
is_child d p = is_above d (parent_of p)

-- the path is the root of its area
abbrev pub is_root : AccountPath → Bool
is_root p = not (is_some (parent_of p))

-- the first refusal of two
abbrev pub first_refusal : Option Refusal → Option Refusal → Option Refusal
first_refusal None later = later
first_refusal (Some refusal) later = Some refusal

-- this refusal, where the test holds
abbrev pub refuse_if : Bool → Refusal → Option Refusal
refuse_if test refusal = if test then Some refusal else None

module _ {B : Type 0} where
  -- what stands at a path
  abbrev pub at : Rows B → AccountPath → Option (Entry B)
  at rows p = lookup (is_path p) rows

  -- the rows with an entry at a path, in the place of the one that stood there
  abbrev pub with_row : Rows B → AccountPath → Entry B → Rows B
  with_row rows p e = insert_entry path_cmp rows p e

  -- the rows without the one at a path
  abbrev pub without_row : Rows B → AccountPath → Rows B
  without_row rows p = remove_entry (is_path p) rows

  -- a directory stands there
  abbrev pub is_directory : Option (Entry B) → Bool
  is_directory None = false
  is_directory (Some (entry.Directory mtime)) = true
  is_directory (Some (entry.Object object)) = false

  -- the object that stands there, if one does
  abbrev pub object_in : Option (Entry B) → Option (Object B)
  object_in None = None
  object_in (Some (entry.Directory mtime)) = None
  object_in (Some (entry.Object object)) = Some object

  -- the object at a path, if one stands there
  abbrev pub object_at : Rows B → AccountPath → Option (Object B)
  object_at rows p = object_in (at rows p)

  -- the rows one below a directory, in the order of their names
  abbrev pub children : Rows B → AccountPath → Rows B
  children rows d = filter (λ r. is_child d r.0) rows

  -- a row as code has it
  abbrev pub row_of : AccountPath × Entry B → Row B
  row_of r = record { path = r.0; entry = r.1 }

  -- nothing stands there, or an object, but a directory has to
  abbrev pub directory_refusal : Option (Entry B) → Option Refusal
  directory_refusal None = Some DirectoryDoesNotExist
  directory_refusal (Some (entry.Directory mtime)) = None
  directory_refusal (Some (entry.Object object)) = Some ParentNotDirectory

  -- the path above has to be a directory
  abbrev pub above_refusal : Rows B → Option AccountPath → Option Refusal
  above_refusal rows None = None
  above_refusal rows (Some d) = directory_refusal (at rows d)

  -- the parent of a path has to be a directory; a root has no parent
  abbrev pub parent_refusal : Rows B → AccountPath → Option Refusal
  parent_refusal rows p = above_refusal rows (parent_of p)

  -- why no object can be put at a path
  abbrev pub put_refusal : Rows B → AccountPath → Option Refusal
  put_refusal rows p =
      first_refusal (refuse_if (is_root p) RootDirectory)
      (first_refusal (parent_refusal rows p)
      (refuse_if (is_directory (at rows p)) DirectoryOperation))

  -- why no directory can be made at a path
  abbrev pub make_directory_refusal : Rows B → AccountPath → Option Refusal
  make_directory_refusal rows p =
      first_refusal (refuse_if (is_some (at rows p)) EntityExists)
      (parent_refusal rows p)

  -- why a row cannot be removed
  abbrev pub remove_refusal : Rows B → AccountPath → Option Refusal
  remove_refusal rows p =
      first_refusal (refuse_if (is_root p) RootDirectory)
      (first_refusal (refuse_if (not (is_some (at rows p))) NotFound)
      (refuse_if (not (length (children rows p) == 0)) DirectoryNotEmpty))

  -- why what stands there cannot be linked to
  abbrev pub source_refusal : Option (Entry B) → Option Refusal
  source_refusal None = Some LinkNotFound
  source_refusal (Some (entry.Directory mtime)) = Some LinkNotObject
  source_refusal (Some (entry.Object object)) = None

  -- why no link to a source can be put at a path
  abbrev pub link_refusal : Rows B → AccountPath → AccountPath → Option Refusal
  link_refusal rows p source = first_refusal (source_refusal (at rows source)) (put_refusal rows p)

  -- each path stands once, the roots are directories, and so is the parent of each row
  pub record IsTree (rows : Rows B) : Type 0 where
    pub ordered : IsStrictlySortedBy path_cmp (keys_of rows)
    pub roots : (area : Area) → is_directory (at rows (root_of area)) ≡ true
    pub parents : (p d : AccountPath) → IsSome (at rows p) → parent_of p ≡ Some d → is_directory (at rows d) ≡ true

  -- the three roots, made at moment 0
  abbrev pub first_rows : Rows B
  first_rows = (root_of Stor, entry.Directory 0) ∷ (root_of Public, entry.Directory 0) ∷ (root_of Jobs, entry.Directory 0) ∷ []
