-- The words of a client's command line, and what they ask for.
use Rattle.std.specs.Prelude.{ℕ, ◌<◌, ◌^◌, ⊤, Bool, ◌&&◌, ◌==◌, not, nat_lt, bytes_eq, IsTrue, List, [], ◌∷◌, length, codes, Option, Some, None, option_map, option_and_then, if◌then◌else◌}
use Rattle.std.specs.List.{list_all}
use Rattle.std.specs.Result.{result_ok}
use Rattle.mt_ident.specs.Identifiers.{identifier_number}
use Rattle.mt_path.specs.AccountPath.{AccountPath, IsLogin, IsPath, is_login}
use Rattle.mt_path.specs.Names.{path_of_text}
use Rattle.mt_ask.specs.declared.ask.Ask.{Ask}
use Rattle.mt_ask.specs.declared.ask.Ask.TheVariants as asks
use Rattle.mt_ask.specs.declared.ask.Words.{Words}

-- ---- values

-- a byte of a host and its port: visible, or past ASCII
abbrev pub is_address_byte : ℕ → Bool
is_address_byte b = nat_lt 32 b && not (b == 127)

-- a text that can stand as a Host
abbrev pub is_address : List ℕ → Bool
is_address text = nat_lt 0 (length text) && list_all is_address_byte text

-- the path that a word names, if it names one of this account
abbrev pub path_in : List ℕ → List ℕ → Option AccountPath
path_in login word = result_ok (path_of_text login word)

-- ---- commands

-- what a command asks for at a path, if it has a path alone
abbrev pub on_path : List ℕ → AccountPath → Option Ask
on_path command p =
    if bytes_eq command (codes "mls") then Some (asks.List p)
    else (if bytes_eq command (codes "mfind") then Some (asks.Find p)
    else (if bytes_eq command (codes "mget") then Some (asks.Get p)
    else (if bytes_eq command (codes "mput") then Some (asks.Put p)
    else (if bytes_eq command (codes "mmkdir") then Some (asks.MakeDirectory p)
    else (if bytes_eq command (codes "mrm") then Some (asks.Remove p)
    else None)))))

-- `PATH`
abbrev pub at_path : List ℕ → List ℕ → List (List ℕ) → Option Ask
at_path command login [] = None
at_path command login (word ∷ []) = option_and_then (on_path command) (path_in login word)
at_path command login (word ∷ other ∷ words) = None

-- `FROM PATH`
abbrev pub link_of : List ℕ → List (List ℕ) → Option Ask
link_of login [] = None
link_of login (word ∷ []) = None
link_of login (from ∷ word ∷ []) = option_and_then (λ source. option_map (λ p. asks.Link source p) (path_in login word)) (path_in login from)
link_of login (from ∷ word ∷ other ∷ words) = None

-- what a verb asks of a job
abbrev pub on_job : List ℕ → ℕ → Option Ask
on_job verb number =
    if bytes_eq verb (codes "add") then Some (asks.AddInputs number)
    else (if bytes_eq verb (codes "end") then Some (asks.EndInput number)
    else (if bytes_eq verb (codes "cancel") then Some (asks.CancelJob number)
    else (if bytes_eq verb (codes "get") then Some (asks.JobStatus number)
    else (if bytes_eq verb (codes "out") then Some (asks.JobOutputs number)
    else None))))

-- `create`, or another verb and the text of a job's identifier
abbrev pub job_of : List (List ℕ) → Option Ask
job_of [] = None
job_of (verb ∷ []) = if bytes_eq verb (codes "create") then Some asks.CreateJob else None
job_of (verb ∷ id ∷ []) = option_and_then (on_job verb) (identifier_number 2 id)
job_of (verb ∷ id ∷ other ∷ words) = None

-- what a command and its arguments ask for
abbrev pub ask_of : List ℕ → List ℕ → List (List ℕ) → Option Ask
ask_of login command words =
    if bytes_eq command (codes "mln") then link_of login words
    else (if bytes_eq command (codes "mjob") then job_of words
    else at_path command login words)

-- ---- words

-- behind a host and a login, both fine
abbrev pub words_by : List ℕ → List ℕ → Option Ask → Option Words
words_by url login asked = option_map (λ a. record { url = url; login = login; ask = a }) asked

-- the option's name is this one, and its value fine
abbrev pub is_option : List ℕ → List ℕ → Bool → Bool
is_option name word is_fine = bytes_eq word name && is_fine

-- WHAT WORDS ASK FOR: `--url`, a host, `--login`, a login, a command and its arguments, in this order
abbrev pub words_of : List (List ℕ) → Option Words
words_of (first ∷ url ∷ second ∷ login ∷ command ∷ arguments) =
    if is_option (codes "--url") first (is_address url) && is_option (codes "--login") second (is_login login)
    then words_by url login (ask_of login command arguments) else None
words_of words = None

-- the word behind a first word `--url`
abbrev pub url_of : List (List ℕ) → Option (List ℕ)
url_of [] = None
url_of (first ∷ []) = None
url_of (first ∷ url ∷ words) = if bytes_eq first (codes "--url") then Some url else None

-- ---- what is known of words that ask for something

-- the paths are paths, and a job's number is one of an identifier
abbrev pub IsAsk : Ask → Type 0
IsAsk (asks.List p) = IsPath p
IsAsk (asks.Find p) = IsPath p
IsAsk (asks.Get p) = IsPath p
IsAsk (asks.Put p) = IsPath p
IsAsk (asks.MakeDirectory p) = IsPath p
IsAsk (asks.Remove p) = IsPath p
IsAsk (asks.Link source p) = IsPath source × IsPath p
IsAsk asks.CreateJob = ⊤
IsAsk (asks.AddInputs number) = number < 2 ^ 62
IsAsk (asks.EndInput number) = number < 2 ^ 62
IsAsk (asks.CancelJob number) = number < 2 ^ 62
IsAsk (asks.JobStatus number) = number < 2 ^ 62
IsAsk (asks.JobOutputs number) = number < 2 ^ 62

pub record IsWords (w : Words) : Type 0 where
  pub url : IsTrue (is_address w.url)
  pub login : IsLogin w.login
  pub ask : IsAsk w.ask
