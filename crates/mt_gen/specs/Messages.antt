-- What a drill asks a store for: HTTP/1.1 messages (RFC 9112), one behind another.
use Rattle.std.specs.Prelude.{ℕ, ◌+◌, ◌-◌, ◌*◌, ◌%◌, List, [], ◌∷◌, ◌++◌, length, codes}
use Rattle.std.specs.Fmt.{decimal}
use Rattle.std.specs.List.{flat_map, range_with_len}
use Rattle.mt_ident.specs.Identifiers.{identifier_text}
use Rattle.mt_gen.specs.declared.due.Due.{Due}
use Rattle.mt_gen.specs.declared.due.Due.TheVariants.{Directory, Object, Job, Inputs, Line, End, Over}

-- what stands in a head behind the method and the target, of a message with so many bytes behind it
unfoldable pub head_end : ℕ → List ℕ
head_end len = codes " HTTP/1.1\r\nContent-Length: " ++ decimal len ++ codes "\r\n\r\n"

abbrev pub head : List ℕ → ℕ → List ℕ
head request len = request ++ head_end len

-- the name of the directory of a number
abbrev pub directory_name : ℕ → List ℕ
directory_name k = codes "/l/stor/d" ++ decimal k

-- objects take turns in the 16 directories
abbrev pub object_name : ℕ → List ℕ
object_name i = directory_name (i % 16) ++ codes "/o" ++ decimal i

-- a directory is put
unfoldable pub directory_put : ℕ → List ℕ
directory_put k = codes "PUT " ++ directory_name k ++ codes " HTTP/1.1\r\nContent-Type: application/json; type=directory\r\nContent-Length: 0\r\n\r\n"

-- the line of an object: `a`, `b` and `c` in turn
abbrev pub object_line : ℕ → List ℕ
object_line i = (97 + i % 3) ∷ 10 ∷ []

-- an object is put
unfoldable pub object_put : ℕ → List ℕ
object_put i = head (codes "PUT " ++ object_name i) 2 ++ object_line i

-- each object is split into lines, and four reducers count theirs
unfoldable pub document : List ℕ
document = codes "{\"phases\":[{\"exec\":\"split\"},{\"type\":\"reduce\",\"exec\":\"count\",\"count\":4}]}"

-- a job is created
unfoldable pub job_post : List ℕ
job_post = head (codes "POST /l/jobs") (length document) ++ document

-- an input of a job, as a line
unfoldable pub input_line : ℕ → List ℕ
input_line i = object_name i ++ 10 ∷ []

-- the lines of so many inputs from one on
abbrev pub input_lines : ℕ → ℕ → List ℕ
input_lines first count = flat_map input_line (range_with_len first count)

-- the number of the job: 4,096 numbers a command, and it is the command behind 16 directories and the objects
abbrev pub job_number : ℕ → ℕ
job_number n = (16 + n) * 4096

-- a message to the inputs of the job
abbrev pub live_in : ℕ → List ℕ
live_in n = codes "POST /l/jobs/" ++ identifier_text 2 (job_number n) ++ codes "/live/in"

-- the inputs are added
unfoldable pub inputs_head : ℕ → List ℕ
inputs_head n = head (live_in n) (length (input_lines 0 n))

-- the input ends
unfoldable pub end_post : ℕ → List ℕ
end_post n = head (live_in n ++ codes "/end") 0

-- THE BYTES OF A DRILL OF SO MANY OBJECTS: 16 directories, the objects, a job, its inputs, and their end
unfoldable pub drill_bytes : ℕ → List ℕ
drill_bytes n =
    flat_map directory_put (range_with_len 0 16)
    ++ (flat_map object_put (range_with_len 0 n)
    ++ (job_post
    ++ (inputs_head n ++ (input_lines 0 n
    ++ end_post n))))

-- ---- piece by piece

-- the piece that is due
abbrev pub piece : ℕ → Due → List ℕ
piece n (Directory k) = directory_put k
piece n (Object i) = object_put i
piece n Job = job_post
piece n Inputs = inputs_head n
piece n (Line i) = input_line i
piece n End = end_post n
piece n Over = []

-- what is due from the piece on
abbrev pub from_lines : ℕ → ℕ → List ℕ
from_lines n i = input_lines i (n - i) ++ end_post n

abbrev pub from_job : ℕ → List ℕ
from_job n = job_post ++ (inputs_head n ++ from_lines n 0)

abbrev pub from_objects : ℕ → ℕ → List ℕ
from_objects n i = flat_map object_put (range_with_len i (n - i)) ++ from_job n

abbrev pub due_bytes : ℕ → Due → List ℕ
due_bytes n (Directory k) = flat_map directory_put (range_with_len k (16 - k)) ++ from_objects n 0
due_bytes n (Object i) = from_objects n i
due_bytes n Job = from_job n
due_bytes n Inputs = inputs_head n ++ from_lines n 0
due_bytes n (Line i) = from_lines n i
due_bytes n End = end_post n
due_bytes n Over = []
