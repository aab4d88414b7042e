-- What reading a body further keeps.
use Rattle.std.specs.Prelude.{◌≡◌, ℕ, ◌+◌, ◌≤◌, List, Option}
use Rattle.mt_base.specs.Counts.{NeverFell, Rose}
use Rattle.mt_edge.specs.declared.source.ReadStep.{ReadStep}
use Rattle.mt_edge.specs.declared.source.ReadStep.TheVariants as read
use Rattle.mt_http.specs.Body.{BodyState, most_left}
use Rattle.mt_http.specs.BodyReading.{after_body}
use Rattle.mt_http.specs.declared.stream.BodyStream.{BodyStream}

-- how many bytes a read took
abbrev pub taken_by : ReadStep → ℕ
taken_by (read.Took n) = n
taken_by _ = 0

-- A source is read by a body's framing: what reading leaves alone stays, and the bytes of the body that were read are fewer to come.
pub record FramerGoesOn {X : Type 0} (alone : X → X → Type 0) (old new : X) (framer framer' : BodyState) (count : ℕ) : Type 0 where
  pub stays : alone old new
  pub fewer : count + most_left framer' ≤ most_left framer

-- A body is read further from the source that it was read from. What reading leaves alone stays, and so do its end and what follows
-- it. The count of the source's faults doesn't fall, and rises where the source failed.
pub record BodyGoesOn {X : Type 0} (left : X → Option (List ℕ)) (count : X → ℕ) (alone : X → X → Type 0) (old new : BodyStream X) (fault : Type 0) : Type 0 where
  pub source : new.source.ghost_name ≡ old.source.ghost_name
  pub stays : alone old.source.now new.source.now
  pub after : after_body new.framer (left new.source.now) ≡ after_body old.framer (left old.source.now)
  pub reads : NeverFell (count old.source.now) (count new.source.now)
  pub failed : fault → Rose (count old.source.now) (count new.source.now)
