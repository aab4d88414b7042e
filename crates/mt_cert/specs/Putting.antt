-- How lines are put: into a page, and each full page into a sink.
use Rattle.std.specs.Prelude.{◌≡◌, ℕ, ◌+◌, ◌&&◌, nat_lt, Bool, List, [], ◌∷◌, ◌++◌, length, Option, Result, Ok, Err}
use Rattle.std.specs.List.{flat_map, list_all}
use Rattle.mt_base.specs.Counts.{NeverFell, Rose}
use Rattle.mt_base.specs.Lists.{IsPrefixOf}
use Rattle.mt_edge.specs.Stream.{GotMore, WritesFront}
use Rattle.mt_certline.specs.declared.line.Line.{Line}
use Rattle.mt_checker.specs.Judge.{line_feed}
use Rattle.mt_checker.specs.Texts.{written}
use Rattle.mt_checker.specs.declared.limits.TheConstants.{LONGEST_LINE}
use Rattle.mt_cert.specs.declared.page.Halt.{Halt}
use Rattle.mt_cert.specs.declared.page.Halt.TheVariants as halt
use Rattle.mt_cert.specs.declared.page.Page.{Page}

-- ---- lines

-- a line with its line feed
abbrev pub line_bytes : List ℕ → Line → List ℕ
line_bytes login l = written login l ++ line_feed ∷ []

-- these lines
abbrev pub lines_text : List ℕ → List Line → List ℕ
lines_text login ls = flat_map (line_bytes login) ls

-- it is within the limit of lines
abbrev pub is_short : List ℕ → Line → Bool
is_short login l = nat_lt (length (written login l)) LONGEST_LINE

-- ---- a page and a sink

-- a page has one line more
pub record HasLine (login : List ℕ) (l : Line) (old new : Page) : Type 0 where
  pub text : new.text.items ≡ old.text.items ++ line_bytes login l
  pub short : new.short ≡ (is_short login l && old.short)
  pub lines : new.lines ≡ old.lines + 1

-- a page, what the sink behind it got, and how often that failed
pub record Out : Type 0 where
  pub page : Page
  pub got : Option (List ℕ)
  pub faults : ℕ

abbrev pub out_at : Page → Option (List ℕ) → ℕ → Out
out_at page got faults = record { page = page; got = got; faults = faults }

-- a front of a text went to a sink
pub record HasSent (got : Option (List ℕ)) (text : List ℕ) (got' : Option (List ℕ)) : Type 0 where
  pub sent : List ℕ
  pub front : IsPrefixOf sent text
  pub grew : GotMore got sent got'

-- what stood in the page and these lines went on, up to what stands in the page now, and the lines are counted
pub record Puts (login : List ℕ) (ls : List Line) (x y : Out) : Type 0 where
  pub sent : List ℕ
  pub whole : x.page.text.items ++ lines_text login ls ≡ sent ++ y.page.text.items
  pub grew : GotMore x.got sent y.got
  pub short : y.page.short ≡ (list_all (is_short login) ls && x.page.short)
  pub lines : y.page.lines ≡ x.page.lines + length ls
  pub faults : NeverFell x.faults y.faults

-- these lines were put, or a front of what stood in the page and of them went to the sink
abbrev pub PutsTo : List ℕ → List Line → Result (Unit {0}) Halt → Out → Out → Type 0
PutsTo login ls (Ok u) x y = Puts login ls x y
PutsTo login ls (Err halt.SinkFault) x y = WritesFront x.got (x.page.text.items ++ lines_text login ls) y.got × Rose x.faults y.faults
PutsTo login ls (Err halt.Memory) x y = HasSent x.got (x.page.text.items ++ lines_text login ls) y.got × NeverFell x.faults y.faults
