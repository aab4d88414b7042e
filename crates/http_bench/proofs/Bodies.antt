-- A body that was drained and ended whole is the whole body at the front of what was left.
use Rattle.std.proofs.Common.{◌≡◌, ℕ, List, [], ◌++◌, length, Option, Some, None, ap, sym, ◌∙◌, append-nil}
use Rattle.std.specs.Prelude.{IfSome}
use Rattle.mt_http.specs.Body.{BodyState, Told, told_from, ended}
use Rattle.mt_http.specs.BodyReading.{body_left, after_body}
use Rattle.mt_http.specs.declared.message.Ending.{Ending}
use Rattle.mt_http.specs.declared.message.Ending.TheVariants.{Whole}
use Rattle.mt_http.specs.declared.stage.Stage.{Stage}
use Rattle.mt_http.specs.declared.stage.Stage.TheVariants as at
use Rattle.mt_http.proofs.Bodies.{told_over}
use Rattle.http_bench.specs.Counting.{Drained, IsWholeBody}

over_at : (stage : Stage) → ended stage ≡ Some Whole → stage ≡ at.Over Whole
over_at (at.Over e) is = ap at.Over (cc is)
over_at (at.Counted n) is = cc is
over_at at.ChunkLine is = cc is
over_at (at.Chunk n) is = cc is
over_at at.ChunkReturn is = cc is
over_at at.ChunkFeed is = cc is
over_at (at.Trailer n line) is = cc is

abbrev ending_of : Option (Ending × List ℕ) → Ending
ending_of None = Whole
ending_of (Some p) = p.0

abbrev rest_of : Option (Ending × List ℕ) → List ℕ
rest_of None = []
rest_of (Some p) = p.1

abbrev bytes_of : Option (List ℕ) → List ℕ
bytes_of None = []
bytes_of (Some bytes) = bytes

-- what was drained of a body that ended whole
pub whole_body : (s s' : BodyState) (left left' : Option (List ℕ)) (count : ℕ)
    → Drained (body_left s left) count (body_left s' left') → after_body s' left' ≡ after_body s left → ended s'.stage ≡ Some Whole
    → IfSome left (λ bytes. IsWholeBody (told_from s bytes) count left')
whole_body s s' None left' count drained after is = tt
whole_body s s' (Some bytes) None count drained after is = cc
whole_body s s' (Some bytes) (Some rest) count drained after is =
    let over = told_over s' Whole rest (over_at s'.stage is) in
    let body : (told_from s bytes).body ≡ drained.bytes = ap bytes_of drained.gone ∙ ap (λ (t : Told). drained.bytes ++ t.body) over ∙ append-nil drained.bytes in
    record {
      whole = sym (ap ending_of after) ∙ ap (λ (t : Told). t.ending) over;
      counted = ap length body ∙ drained.size;
      behind = ap Some (sym (ap (λ (t : Told). t.rest) over) ∙ ap rest_of after);
    }
