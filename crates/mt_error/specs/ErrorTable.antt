-- The table of errors: the status, the name and the words of each.
use Rattle.std.specs.Prelude.{ℕ, List, ◌++◌, codes}
use Rattle.mt_error.specs.declared.code.ErrorCode.{ErrorCode}
use Rattle.mt_error.specs.declared.code.ErrorCode.TheVariants as error

-- a line of the table
pub record ErrorLine : Type 0 where
  pub status : ℕ
  pub name : List ℕ
  pub words : List ℕ

abbrev pub line : ℕ → List ℕ → List ℕ → ErrorLine
line status name words = record { status = status; name = name; words = words }

-- the table
abbrev pub line_of_error : ErrorCode → ErrorLine
line_of_error error.BadRequest = line 400 (codes "BadRequest") (codes "the request is not well formed")
line_of_error error.ResourceNotFound = line 404 (codes "ResourceNotFound") (codes "no such resource")
line_of_error error.DirectoryDoesNotExist = line 404 (codes "DirectoryDoesNotExist") (codes "the parent directory does not exist")
line_of_error error.ParentNotDirectory = line 400 (codes "ParentNotDirectory") (codes "the parent is not a directory")
line_of_error error.DirectoryNotEmpty = line 400 (codes "DirectoryNotEmpty") (codes "the directory is not empty")
line_of_error error.DirectoryOperation = line 400 (codes "DirectoryOperation") (codes "the path is a directory")
line_of_error error.EntityExists = line 409 (codes "EntityExists") (codes "the path is an object")
line_of_error error.RootDirectory = line 400 (codes "RootDirectory") (codes "the path is a root directory")
line_of_error error.LinkNotFound = line 404 (codes "LinkNotFound") (codes "the link's source does not exist")
line_of_error error.LinkNotObject = line 400 (codes "LinkNotObject") (codes "the link's source is not an object")
line_of_error error.LinkRequired = line 400 (codes "LinkRequired") (codes "a link needs a Location")
line_of_error error.PreconditionFailed = line 412 (codes "PreconditionFailed") (codes "a precondition does not hold")
line_of_error error.ContentMD5Mismatch = line 400 (codes "ContentMD5Mismatch") (codes "the body does not have this MD5")
line_of_error error.RequestEntityTooLarge = line 413 (codes "RequestEntityTooLarge") (codes "the body is over the limit")
line_of_error error.InvalidLimit = line 400 (codes "InvalidLimit") (codes "the limit must be 1 to 1024")
line_of_error error.InvalidJob = line 400 (codes "InvalidJob") (codes "the job document is not valid")
line_of_error error.JobNotFound = line 404 (codes "JobNotFound") (codes "no such job")
line_of_error error.JobState = line 400 (codes "JobState") (codes "the job does not take this now")
line_of_error error.NotEnoughSpace = line 507 (codes "NotEnoughSpace") (codes "the log is full")
line_of_error error.MethodNotAllowed = line 405 (codes "MethodNotAllowed") (codes "the method is not allowed here")
line_of_error error.Authorization = line 403 (codes "Authorization") (codes "not this account")
line_of_error error.OriginRefused = line 403 (codes "OriginRefused") (codes "requests of web pages are not taken")
line_of_error error.RangeNotSatisfiable = line 416 (codes "RangeNotSatisfiable") (codes "the range cannot be met")
line_of_error error.InvalidArgument = line 400 (codes "InvalidArgument") (codes "too many inputs")
line_of_error error.InvalidDurabilityLevel = line 400 (codes "InvalidDurabilityLevel") (codes "the durability level must be 1 to 6")
line_of_error error.MetadataTooLarge = line 400 (codes "MetadataTooLarge") (codes "the metadata are over the limit")
line_of_error error.UploadNotFound = line 404 (codes "UploadNotFound") (codes "no such upload")
line_of_error error.UploadState = line 409 (codes "UploadState") (codes "the upload is not open")
line_of_error error.UploadPart = line 409 (codes "UploadPart") (codes "a listed part is not there")
line_of_error error.InvalidUpload = line 400 (codes "InvalidUpload") (codes "the upload request is not valid")
line_of_error error.UploadTooLarge = line 413 (codes "UploadTooLarge") (codes "the joined object is over the limit")

-- the status code of its reply (RFC 9110, section 15)
abbrev pub status_of_error : ErrorCode → ℕ
status_of_error e = (line_of_error e).status

-- the code in the body of its reply
abbrev pub name_of_error : ErrorCode → List ℕ
name_of_error e = (line_of_error e).name

-- the message in the body of its reply
abbrev pub words_of_error : ErrorCode → List ℕ
words_of_error e = (line_of_error e).words

-- the body of its reply, a JSON object; no name and no word has a character that JSON escapes
abbrev pub error_body : ErrorCode → List ℕ
error_body e = codes "{\"code\":\"" ++ name_of_error e ++ codes "\",\"message\":\"" ++ words_of_error e ++ codes "\"}"
