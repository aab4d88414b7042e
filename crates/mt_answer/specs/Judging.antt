-- Why a request is refused: what its head says before its body is looked at, the digest of its body, what its head says then, and
-- last the account.
use Rattle.std.specs.Prelude.{ℕ, Bool, true, false, not, ◌&&◌, List, [], ◌∷◌, Option, Some, None, is_some, option_map, Result, Ok, Err, if◌then◌else◌}
use Rattle.mt_cond.specs.Range.{ranged}
use Rattle.mt_cond.specs.declared.conditions.Conditions.{Conditions}
use Rattle.mt_cond.specs.declared.range.Range.{Range}
use Rattle.mt_cond.specs.declared.range.Ranged.{Ranged}
use Rattle.mt_cond.specs.declared.range.Ranged.TheVariants as part
use Rattle.mt_error.specs.Refusals.{cannot_meet, plain}
use Rattle.mt_error.specs.declared.code.ErrorCode.{ErrorCode}
use Rattle.mt_error.specs.declared.code.ErrorCode.TheVariants as error
use Rattle.mt_error.specs.declared.refused.Refused.{Refused}
use Rattle.mt_path.specs.AccountPath.{AccountPath}
use Rattle.mt_model.specs.Rows.{Rows, at, is_directory, make_directory_refusal, object_at}
use Rattle.mt_request.specs.Digest.{digest_refusal}
use Rattle.mt_request.specs.Order.{first_of}
use Rattle.mt_request.specs.declared.asked.Asked.{Asked}
use Rattle.mt_request.specs.declared.asked.Asked.TheVariants as asked
use Rattle.mt_request.specs.declared.request.Doing.{Doing}
use Rattle.mt_request.specs.declared.request.Doing.TheVariants as doing
use Rattle.mt_request.specs.declared.query.Page.{Page}
use Rattle.mt_request.specs.declared.request.Request.{Request}
use Rattle.mt_store.specs.Decisions.{delete_decision, link_decision, put_decision, read_decision}
use Rattle.mt_store.specs.declared.error.StoreError.{StoreError}
use Rattle.mt_store.specs.declared.error.StoreError.TheVariants as store
use Rattle.mt_store.specs.declared.reads.Found.{Found}
use Rattle.mt_store.specs.declared.reads.Found.TheVariants as found
use Rattle.mt_types.specs.declared.body.Body.{Body}
use Rattle.mt_types.specs.declared.object.Object.{Object}
use Rattle.mt_types.specs.declared.refusal.Refusal.{Refusal}
use Rattle.mt_types.specs.declared.refusal.Refusal.TheVariants as refusal

-- how many bytes a reference stands for, and their digest
abbrev pub len_of : Body → ℕ
len_of b = b.len

abbrev pub md5_of : Body → List ℕ
md5_of b = b.md5

-- the error that tells of a refusal of the account
abbrev pub code_of : Refusal → ErrorCode
code_of refusal.RootDirectory = error.RootDirectory
code_of refusal.DirectoryDoesNotExist = error.DirectoryDoesNotExist
code_of refusal.ParentNotDirectory = error.ParentNotDirectory
code_of refusal.DirectoryOperation = error.DirectoryOperation
code_of refusal.EntityExists = error.EntityExists
code_of refusal.NotFound = error.ResourceNotFound
code_of refusal.DirectoryNotEmpty = error.DirectoryNotEmpty
code_of refusal.LinkNotFound = error.LinkNotFound
code_of refusal.LinkNotObject = error.LinkNotObject
code_of refusal.AssetsTooLarge = error.InvalidJob
code_of refusal.JobNotFound = error.JobNotFound
code_of refusal.JobState = error.JobState
code_of refusal.TooManyInputs = error.InvalidArgument
code_of refusal.NotATask = error.JobState
code_of refusal.AlreadyCommitted = error.JobState
code_of refusal.NotComplete = error.JobState
code_of refusal.UploadNotFound = error.UploadNotFound
code_of refusal.UploadState = error.UploadState
code_of refusal.UploadPart = error.UploadPart
code_of refusal.UploadTooLarge = error.UploadTooLarge

-- of the tree, or of a condition
abbrev pub refused_as : StoreError → Refused
refused_as (store.Refused r) = plain (code_of r)
refused_as store.PreconditionFailed = plain error.PreconditionFailed

abbrev pub refused_by : {A : Type 0} → Result A StoreError → Option Refused
refused_by (Ok x) = None
refused_by (Err e) = Some (refused_as e)

-- no byte of an object of this size is in the range
abbrev pub unmet : ℕ → Ranged → Option Refused
unmet size part.CannotMeet = Some (cannot_meet size)
unmet size part.Whole = None
unmet size (part.Part from to) = None

abbrev pub range_refusal : ℕ → Option Range → Option Refused
range_refusal size None = None
range_refusal size (Some range) = unmet size (ranged range size)

-- the limit of a page is none, where it is looked at: a directory stands there, or nothing
abbrev pub limit_refusal : Bool → Option Page → Option Refused
limit_refusal is_object None = if is_object then None else Some (plain error.InvalidLimit)
limit_refusal is_object (Some page) = None

-- no directory can be made; one that stands already is no refusal
abbrev pub directory_refusal : {B : Type 0} → Rows B → AccountPath → Option Refused
directory_refusal rows p = if is_directory (at rows p) then None else option_map (λ r. plain (code_of r)) (make_directory_refusal rows p)

module _ {B : Type 0} (size : B → ℕ) where
  -- what is read can't be, or its range can't be met
  abbrev pub read_refusal : Result (Found (Object B)) StoreError → Option Range → Option Refused
  read_refusal (Err e) range = Some (refused_as e)
  read_refusal (Ok found.Directory) range = None
  read_refusal (Ok (found.NotModified o)) range = None
  read_refusal (Ok (found.Object o)) range = range_refusal (size o.body) range

  -- the limit of the page, then the reading, then the range
  abbrev pub look_refusal : Rows B → Conditions → AccountPath → Option Page → Option Range → Option Refused
  look_refusal rows c p page range = first_of (limit_refusal (is_some (object_at rows p)) page ∷ read_refusal (read_decision rows p c) range ∷ [])

  -- why the account doesn't do it: the tree, then the conditions of the request, then its range
  abbrev pub account_refusal : Rows B → Conditions → Doing → Option Refused
  account_refusal rows c doing.Nothing = None
  account_refusal rows c (doing.PutObject p content_type durability metadata) = refused_by (put_decision rows p c)
  account_refusal rows c (doing.PutDirectory p) = directory_refusal rows p
  account_refusal rows c (doing.PutLink p source) = refused_by (link_decision rows p source c)
  account_refusal rows c (doing.Remove p) = refused_by (delete_decision rows p c)
  account_refusal rows c (doing.Look p page range) = look_refusal rows c p page range

  -- THE ORDER OF REFUSALS: the target, the login, the area and the method; the digest, where that of the body is known; the content
  -- type, metadata, level or Location; and last the account. Behind all of these a full log refuses (`accept` of Answer).
  unfoldable pub refusal_of : Request → Rows B → Conditions → Option (List ℕ) → Option Refused
  refusal_of request rows c digest =
      first_of (request.early ∷ option_map plain (digest_refusal request.wish digest) ∷ option_map plain request.late ∷ account_refusal rows c request.doing ∷ [])

-- an object is put
abbrev pub is_put_object : Doing → Bool
is_put_object (doing.PutObject p content_type durability metadata) = true
is_put_object doing.Nothing = false
is_put_object (doing.PutDirectory p) = false
is_put_object (doing.PutLink p source) = false
is_put_object (doing.Remove p) = false
is_put_object (doing.Look p page range) = false

module _ {B : Type 0} (size : B → ℕ) where
  -- only its digest or a full log could still refuse the put of an object: its body is stored
  abbrev pub stores_body : Request → Rows B → Conditions → Bool
  stores_body request rows c = is_put_object request.doing && not (is_some (refusal_of size request rows c None))

  -- how many bytes of a body of so many are stored
  abbrev pub stored_len : Request → Rows B → Conditions → ℕ → ℕ
  stored_len request rows c len = if stores_body request rows c then len else 0

  -- and of what a head asks for: of what is asked of jobs none
  abbrev pub stored_asked : Asked → Rows B → Conditions → ℕ → ℕ
  stored_asked (asked.Rows request) rows c len = stored_len request rows c len
  stored_asked (asked.Jobs request) rows c len = 0
