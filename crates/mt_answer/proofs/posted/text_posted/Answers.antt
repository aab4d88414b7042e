use Rattle.std.proofs.Common.{◌≡◌, ℕ, Bool, true, false, List, refl, sym, ap, subst, ◌∙◌}
use Rattle.std.specs.Prelude.{IfOk, IsUtf8, if◌then◌else◌}
use Rattle.std.specs.Str.{is_utf8}
use Rattle.std.proofs.lemmas.Str.{IsUtf8-from_is_utf8, is_utf8-from_IsUtf8}
use Rattle.mt_answer.specs.Posting.{lines_posted, posted_lines, text_posted}
use Rattle.mt_answer.specs.declared.posted.Posted.{Posted}
use Rattle.mt_answer.specs.declared.posted.Posted.TheVariants as posted
use Rattle.mt_answer.proofs.posted.text_posted.Goals as goal

text_is : (login body text : List ℕ) → text ≡ body → IsUtf8 body → lines_posted login (posted_lines text) ≡ text_posted login body
text_is login body text same utf8 =
    ap (λ (t : List ℕ). lines_posted login (posted_lines t)) same
    ∙ sym (ap (λ b. if b then lines_posted login (posted_lines body) else posted.NoText) (is_utf8-from_IsUtf8 body utf8))

no_text_by : (b : Bool) (login body : List ℕ) → is_utf8 body ≡ b → (IsUtf8 body → ⊥) → posted.NoText ≡ (if b then lines_posted login (posted_lines body) else posted.NoText)
no_text_by true login body is lacks = absurd (lacks (IsUtf8-from_is_utf8 body is))
no_text_by false login body is lacks = refl

pub returns-in-Ok : goal.returns-in-Ok
returns-in-Ok c =
    subst (λ (p : Posted). IfOk c.lines_posted.result (λ q. q ≡ p))
    (text_is c.args.login.now c.args.body.now c.in-Ok.text.now c.in-Ok.ensures.cases.0 c.in-Ok.ensures.cases.1) c.lines_posted.ensures

pub returns-in-Err : goal.returns-in-Err
returns-in-Err c = no_text_by (is_utf8 c.args.body.now) c.args.login.now c.args.body.now refl c.in-Err.ensures.cases.0
