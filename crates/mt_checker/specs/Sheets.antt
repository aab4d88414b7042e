-- What a checker keeps of the phase that is being listed.
use Rattle.std.specs.Prelude.{ℕ, ◌==◌, Bool, true, false, not, ◌&&◌, nat_lt, List, [], replicate, set, slice_get, Option, Some, None, unwrap_or}
use Rattle.std.specs.List.{count_by, list_all}
use Rattle.std.specs.Option.{option_map_or}
use Rattle.mt_types.specs.declared.document.PhaseKind.{PhaseKind}
use Rattle.mt_certline.specs.declared.line.Listed.{Listed}
use Rattle.mt_checker.specs.Feeds.{Feed, feed_of, reads_in, with_all}

-- its number, what it reads, which of its places are listed, the position of its last task, and what the next phase reads
pub record Sheet : Type 0 where
  pub phase : ℕ
  pub reading : Feed
  pub listed : List Bool
  pub last : Option ℕ
  pub next : Feed

-- of this number over a feed, with so many places; the next one is of this kind
abbrev pub first_sheet : ℕ → Feed → ℕ → Option PhaseKind → Sheet
first_sheet phase reading count kind = record { phase = phase; reading = reading; listed = replicate count false; last = None; next = feed_of kind [] }

-- the number of places that are not listed
abbrev pub places_left : List Bool → ℕ
places_left listed = count_by not listed

-- each place is listed
abbrev pub is_whole_list : List Bool → Bool
is_whole_list listed = list_all (λ b. b) listed

-- a place that is there and not listed
abbrev pub is_open : List Bool → ℕ → Bool
is_open listed place = option_map_or not (slice_get listed place) false

-- above the last position, if there is one
abbrev pub is_above : Option ℕ → ℕ → Bool
is_above None position = true
is_above (Some last) position = nat_lt last position

-- a task that may stand there: of this phase, at a place that is not listed, later, with what it reads
abbrev pub may_follow : Sheet → Listed → Bool
may_follow s l = (l.phase == s.phase) && is_open s.listed l.place && is_above s.last l.position && reads_in s.reading.kind s.reading.shares l.place l.reads

-- with this task
abbrev pub entered : Sheet → Listed → Sheet
entered s l = record {
  phase = s.phase;
  reading = s.reading;
  listed = set s.listed l.place true;
  last = Some l.position;
  next = with_all s.next (unwrap_or l.outputs []);
}
