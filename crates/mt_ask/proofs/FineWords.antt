-- What words ask for is fine: a host, a login, paths, and numbers of jobs.
use Rattle.std.proofs.Common.{◌≡◌, ℕ, ◌<◌, ◌^◌, Bool, true, false, ◌&&◌, cond, List, [], ◌∷◌, Option, Some, None, Result, Ok, Err, IfOk, IfSome, codes, refl, subst, sym, arith}
use Rattle.std.specs.Prelude.{bytes_eq, length, nat_le, option_and_then, option_map}
use Rattle.std.specs.List.{list_all}
use Rattle.std.specs.Result.{result_ok}
use Rattle.std.proofs.lemmas.Bool.{and_parts}
use Rattle.std.proofs.lemmas.Bool.Decides.{nat_tests}
use Rattle.mt_ident.specs.Identifiers.{identifier_number}
use Rattle.mt_ident.proofs.IdentifierTexts.{identifier_number-read}
use Rattle.mt_path.specs.AccountPath.{AccountPath, IsLogin, IsPath, is_login, is_login_byte}
use Rattle.mt_path.specs.Names.{AreNames, and_then, area_of, names_of, path_of, path_of_text, text_pieces}
use Rattle.mt_path.specs.Names as names
use Rattle.mt_path.specs.declared.area.Area.{Area}
use Rattle.mt_path.specs.declared.error.PathError.{PathError}
use Rattle.mt_path.specs.declared.limits.TheConstants.{LONGEST_LOGIN}
use Rattle.mt_path.proofs.Judged.{AreNames-from_names_of, IsPath-from_names}
use Rattle.mt_ask.specs.declared.ask.Ask.{Ask}
use Rattle.mt_ask.specs.declared.ask.Ask.TheVariants as asks
use Rattle.mt_ask.specs.declared.ask.Words.{Words}
use Rattle.mt_ask.specs.Words.{IsAsk, IsWords, ask_of, at_path, is_address, is_option, job_of, link_of, on_job, on_path, path_in, words_by, words_of}

abbrev Fine : Option Ask → Type 0
Fine o = IfSome o IsAsk

pick : (test : Bool) (x y : Option Ask) → Fine x → Fine y → Fine (cond test x y)
pick true x y a b = a
pick false x y a b = b

-- ---- a path that was read

in_area : (first : List ℕ) (parts : List (List ℕ)) (area : Option Area) → AreNames (first ∷ parts) → area_of first ≡ area → IfSome (result_ok (names.path_in area parts)) IsPath
in_area first parts None are is = tt
in_area first parts (Some area) are is = IsPath-from_names first parts area are is

of_names : (ns : List (List ℕ)) → AreNames ns → IfSome (result_ok (path_of ns)) IsPath
unfolding path_of
of_names [] are = tt
of_names (first ∷ parts) are = in_area first parts (area_of first) are refl

of_pieces : (login : List ℕ) (ps : List (List ℕ)) (r : Result (List (List ℕ)) PathError) → names_of login ps ≡ r → IfSome (result_ok (and_then r path_of)) IsPath
of_pieces login ps (Ok ns) is = of_names ns (AreNames-from_names_of login ps ns is)
of_pieces login ps (Err e) is = tt

path_fine : (login word : List ℕ) → IfSome (path_in login word) IsPath
path_fine login word = of_pieces login (text_pieces login word) (names_of login (text_pieces login word)) refl

at_paths : (o : Option AccountPath) (f : AccountPath → Option Ask) → IfSome o IsPath → ((p : AccountPath) → IsPath p → Fine (f p)) → Fine (option_and_then f o)
at_paths None f is all = tt
at_paths (Some p) f is all = all p is

-- ---- the number of a job

small_number : (id : List ℕ) (o : Option ℕ) → identifier_number 2 id ≡ o → IfSome o (λ n. n < 2 ^ 62)
small_number id None is = tt
small_number id (Some n) is = (identifier_number-read 2 n id is).small

at_numbers : (o : Option ℕ) (f : ℕ → Option Ask) → IfSome o (λ n. n < 2 ^ 62) → ((n : ℕ) → n < 2 ^ 62 → Fine (f n)) → Fine (option_and_then f o)
at_numbers None f is all = tt
at_numbers (Some n) f is all = all n is

-- ---- commands

on_path_fine : (command : List ℕ) (p : AccountPath) → IsPath p → Fine (on_path command p)
on_path_fine command p is =
    pick (bytes_eq command (codes "mls")) _ _ is
    (pick (bytes_eq command (codes "mfind")) _ _ is
    (pick (bytes_eq command (codes "mget")) _ _ is
    (pick (bytes_eq command (codes "mput")) _ _ is
    (pick (bytes_eq command (codes "mmkdir")) _ _ is
    (pick (bytes_eq command (codes "mrm")) _ _ is tt)))))

at_path_fine : (command login : List ℕ) (words : List (List ℕ)) → Fine (at_path command login words)
at_path_fine command login [] = tt
at_path_fine command login (word ∷ []) = at_paths (path_in login word) (on_path command) (path_fine login word) (on_path_fine command)
at_path_fine command login (word ∷ other ∷ words) = tt

link_from : (login word : List ℕ) (source : AccountPath) → IsPath source → (o : Option AccountPath) → IfSome o IsPath → Fine (option_map (λ p. asks.Link source p) o)
link_from login word source is None other = tt
link_from login word source is (Some p) other = (is, other)

link_fine : (login : List ℕ) (words : List (List ℕ)) → Fine (link_of login words)
link_fine login [] = tt
link_fine login (word ∷ []) = tt
link_fine login (from ∷ word ∷ []) =
    at_paths (path_in login from) (λ source. option_map (λ p. asks.Link source p) (path_in login word)) (path_fine login from)
    (λ source is. link_from login word source is (path_in login word) (path_fine login word))
link_fine login (from ∷ word ∷ other ∷ words) = tt

on_job_fine : (verb : List ℕ) (n : ℕ) → n < 2 ^ 62 → Fine (on_job verb n)
on_job_fine verb n small =
    pick (bytes_eq verb (codes "add")) _ _ small
    (pick (bytes_eq verb (codes "end")) _ _ small
    (pick (bytes_eq verb (codes "cancel")) _ _ small
    (pick (bytes_eq verb (codes "get")) _ _ small
    (pick (bytes_eq verb (codes "out")) _ _ small tt))))

job_fine : (words : List (List ℕ)) → Fine (job_of words)
job_fine [] = tt
job_fine (verb ∷ []) = pick (bytes_eq verb (codes "create")) _ _ tt tt
job_fine (verb ∷ id ∷ []) = at_numbers (identifier_number 2 id) (on_job verb) (small_number id (identifier_number 2 id) refl) (on_job_fine verb)
job_fine (verb ∷ id ∷ other ∷ words) = tt

ask_fine : (login command : List ℕ) (words : List (List ℕ)) → Fine (ask_of login command words)
ask_fine login command words =
    pick (bytes_eq command (codes "mln")) _ _ (link_fine login words)
    (pick (bytes_eq command (codes "mjob")) _ _ (job_fine words) (at_path_fine command login words))

-- ---- words

login_fine : (login : List ℕ) → is_login login ≡ true → IsLogin login
login_fine login is =
    let parts = and_parts (nat_le 1 (length login)) (nat_le (length login) LONGEST_LOGIN && list_all is_login_byte login) is in
    let more = and_parts (nat_le (length login) LONGEST_LOGIN) (list_all is_login_byte login) parts.1 in
    record { some = grind (arith, nat_tests, parts.0); short = grind (arith, nat_tests, more.0); plain = more.1 }

by_parts : (url login : List ℕ) (o : Option Ask) → is_address url ≡ true → IsLogin login → Fine o → IfSome (words_by url login o) IsWords
by_parts url login None address named fine = tt
by_parts url login (Some a) address named fine = record { url = address; login = named; ask = fine }

by_test : (test : Bool) (o : Option Words) → (test ≡ true → IfSome o IsWords) → IfSome (cond test o None) IsWords
by_test true o all = all refl
by_test false o all = tt

pub words_fine : (words : List (List ℕ)) → IfSome (words_of words) IsWords
words_fine [] = tt
words_fine (a ∷ []) = tt
words_fine (a ∷ b ∷ []) = tt
words_fine (a ∷ b ∷ c ∷ []) = tt
words_fine (a ∷ b ∷ c ∷ d ∷ []) = tt
words_fine (first ∷ url ∷ second ∷ login ∷ command ∷ arguments) =
    by_test (is_option (codes "--url") first (is_address url) && is_option (codes "--login") second (is_login login)) _
    (λ is.
    let both = and_parts _ _ is in
    by_parts url login (ask_of login command arguments) (and_parts _ _ both.0).1 (login_fine login (and_parts _ _ both.1).1) (ask_fine login command arguments))

pub fine_read : {E : Type 0} (words : List (List ℕ)) (r : Result (Option Words) E) → IfOk r (λ w. w ≡ words_of words) → IfOk r (λ w. IfSome w IsWords)
fine_read words (Ok w) is = subst (λ o. IfSome o IsWords) (sym is) (words_fine words)
fine_read words (Err e) is = tt
