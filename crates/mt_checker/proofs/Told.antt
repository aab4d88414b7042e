-- A check by its two parts.
use Rattle.std.proofs.Common.{ℕ, List, Option, subst}
use Rattle.mt_base.specs.Counts.{NeverFell}
use Rattle.mt_edge.specs.Stream.{GotMore}
use Rattle.mt_checker.specs.Judge.{Verdict}
use Rattle.mt_checker.specs.Sources.{Checks, HasCause, HasTold, IsEndOf, JudgedAs, Tells, verdict_line}
use Rattle.mt_checker.specs.declared.checking.CheckEnd.{CheckEnd}
use Rattle.mt_checker.specs.declared.checking.CheckEnd.TheVariants as check

pub written : (v : Verdict) (e : CheckEnd) (got got' : Option (List ℕ)) → IsEndOf v e → GotMore got (verdict_line v) got' → Tells v e got got'
written v check.Accepted got got' is more = (is, more)
written v (check.Refused number) got got' is more = (is, more)
written v check.SourceFault got got' is more = absurd is
written v check.SinkFault got got' is more = absurd is
written v check.Memory got got' is more = absurd is

pub written_count : (v : Verdict) (e : CheckEnd) (writes writes' : ℕ) → IsEndOf v e → NeverFell writes writes' → HasTold e writes writes'
written_count v check.Accepted writes writes' is never = never
written_count v (check.Refused number) writes writes' is never = never
written_count v check.SourceFault writes writes' is never = absurd is
written_count v check.SinkFault writes writes' is never = absurd is
written_count v check.Memory writes writes' is never = absurd is

pub told_checks : (login : List ℕ) (v : Verdict) (e : CheckEnd) (left left' got got' : Option (List ℕ)) → JudgedAs login v left left' → Tells v e got got' → Checks login e left left' got got'
told_checks login v check.Accepted left left' got got' judged told = (subst (λ x. JudgedAs login x left left') told.0 judged, subst (λ x. GotMore got (verdict_line x) got') told.0 told.1)
told_checks login v (check.Refused number) left left' got got' judged told = (subst (λ x. JudgedAs login x left left') told.0 judged, subst (λ x. GotMore got (verdict_line x) got') told.0 told.1)
told_checks login v check.SourceFault left left' got got' judged told = absurd told
told_checks login v check.SinkFault left left' got got' judged told = (v, judged, told)
told_checks login v check.Memory left left' got got' judged told = ((judged.0, judged.1), told)

pub told_cause : (e : CheckEnd) (reads reads' writes writes' : ℕ) → NeverFell reads reads' → HasTold e writes writes' → HasCause e reads reads' writes writes'
told_cause check.Accepted reads reads' writes writes' never told = (never, told)
told_cause (check.Refused number) reads reads' writes writes' never told = (never, told)
told_cause check.SourceFault reads reads' writes writes' never told = absurd told
told_cause check.SinkFault reads reads' writes writes' never told = (never, told)
told_cause check.Memory reads reads' writes writes' never told = (never, told)
