-- Pieces of bodies, and how long the spelling of a command may be.
use Rattle.std.specs.Prelude.{ℕ, ◌+◌, ◌*◌, Bool, false, ◌&&◌, ◌==◌, nat_le, List, [], ◌∷◌, length}
use Rattle.mt_types.specs.declared.body.Body.{Body}
use Rattle.mt_types.specs.declared.document.InputLine.{InputLine}
use Rattle.mt_types.specs.declared.document.InputLine.TheVariants.{Named, Other}
use Rattle.mt_types.specs.declared.command.Command.{Command}
use Rattle.mt_types.specs.declared.command.Command.TheVariants.{Put, MakeDirectory, Link, Delete, NewJob, AddInputs, EndInput, Commit, Finish, Cancel, Close, NewUpload, PutPart, CommitUpload, AbortUpload}
use Rattle.mt_types.specs.Values.{command_with}
use Rattle.mt_codec.specs.Spelling.{spelling}
use Rattle.mt_types.specs.declared.limits.TheConstants.{LARGEST_PIECE}

-- a piece of a body in the log: a 0, and 1 to 65,536 bytes
abbrev pub is_piece : List ℕ → Bool
is_piece [] = false
is_piece (mark ∷ bytes) = (mark == 0) && (nat_le 1 (length bytes) && nat_le (length bytes) LARGEST_PIECE)

-- a body that stands for any, where sizes alone are asked
abbrev pub blank_body : Body
blank_body = record { first = 0; len = 0; md5 = [] }

-- the length of the spelling of a command, whatever its bodies are
unfoldable pub spelled_size : {B : Type 0} → Command B → ℕ
spelled_size c = length (spelling (command_with (λ b. blank_body) c))

-- a line has at most so many bytes
abbrev pub line_bound : InputLine → ℕ
line_bound (Named p) = 2049
line_bound (Other t) = 5 + length t

abbrev pub lines_bound : List InputLine → ℕ
lines_bound [] = 0
lines_bound (line ∷ lines) = line_bound line + lines_bound lines

-- a command has at most so many bytes
abbrev pub size_bound : Command Body → ℕ
size_bound (Put path content_type body durability metadata moment) = 8192
size_bound (MakeDirectory path moment) = 2057
size_bound (Link path source moment) = 4105
size_bound (Delete path moment) = 2057
size_bound (NewJob document moment) = 4194560 + length document.name
size_bound (AddInputs job lines moment) = 21 + lines_bound lines
size_bound (EndInput job moment) = 17
size_bound (Commit job phase place fate moment) = 8480777
size_bound (Finish job moment) = 17
size_bound (Cancel job moment) = 17
size_bound (Close job cancelled archive moment) = 98
size_bound (NewUpload path content_type moment) = 2314
size_bound (PutPart upload index body moment) = 35
size_bound (CommitUpload upload parts body moment) = 35 + 8 * length parts
size_bound (AbortUpload upload moment) = 17
