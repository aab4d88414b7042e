-- What a put is answered is of the object that then stands at its path.
use Rattle.std.proofs.Common.{◌≡◌, ℕ, ◌*◌, cond, List, Option, Some, sym, ap, ◌∙◌, add-zero}
use Rattle.std.proofs.lemmas.Option.{same_Some}
use Rattle.mt_cond.specs.declared.conditions.Conditions.{Conditions}
use Rattle.mt_model.specs.CommandStep.{change, linked, put_object, step}
use Rattle.mt_model.specs.Names.{number_at}
use Rattle.mt_model.specs.Rows.{Rows, at, object_at, object_in, with_row}
use Rattle.mt_model.specs.State.{State}
use Rattle.mt_model.proofs.RowLaws.{at-with_row, is_path-self}
use Rattle.mt_path.specs.AccountPath.{AccountPath}
use Rattle.mt_reply.specs.Replies.{stored_reply}
use Rattle.mt_reply.specs.declared.stamp.Stamp.{Stamp}
use Rattle.mt_request.specs.declared.request.Doing.TheVariants as doing
use Rattle.mt_types.specs.declared.body.Body.{Body}
use Rattle.mt_types.specs.declared.command.Command.TheVariants.{Put, Link}
use Rattle.mt_types.specs.declared.limits.TheConstants.{NUMBERS_A_COMMAND}
use Rattle.mt_types.specs.declared.object.Entry.{Entry}
use Rattle.mt_types.specs.declared.object.Entry.TheVariants as entry
use Rattle.mt_types.specs.declared.object.Field.{Field}
use Rattle.mt_types.specs.declared.object.Object.{Object}
use Rattle.mt_answer.specs.Answer.{link_reply, reply_to}
use Rattle.mt_answer.specs.Judging.{len_of, md5_of}

-- what was put at a path stands there
put_there : (rows : Rows Body) (p : AccountPath) (o : Object Body) → object_at (with_row rows p (entry.Object o)) p ≡ Some o
put_there rows p o =
    ap (λ (e : Option (Entry Body)). object_in e) (at-with_row rows p (entry.Object o) p)
    ∙ ap (λ b. object_in (cond b (Some (entry.Object o)) (at rows p))) (is_path-self p)

tells : (stamp : Stamp) (o x : Object Body) → Some x ≡ Some o → stored_reply {B = Body} stamp x.number x.mtime x.body.md5 ≡ stored_reply stamp o.number o.mtime o.body.md5
tells stamp o x is = ap (λ (y : Object Body). stored_reply {B = Body} stamp y.number y.mtime y.body.md5) (same_Some _ _ is)

pub put_told : (stamp : Stamp) (s : State Body) (c : Conditions) (p : AccountPath) (content_type : List ℕ) (durability : Option ℕ) (metadata : List Field) (body : Body) (o : Object Body)
    → object_at (step s (Put p content_type body durability metadata stamp.moment)).rows p ≡ Some o
    → reply_to len_of md5_of stamp s.count s.rows c (doing.PutObject p content_type durability metadata) body.md5 ≡ stored_reply stamp o.number o.mtime o.body.md5
unfolding step change
put_told stamp s c p content_type durability metadata body o is =
    ap (λ n. stored_reply {B = Body} stamp n stamp.moment body.md5) (sym (add-zero (s.count * NUMBERS_A_COMMAND)))
    ∙ tells stamp o (put_object (number_at s.count 0) body content_type durability metadata stamp.moment)
    (sym (put_there s.rows p (put_object (number_at s.count 0) body content_type durability metadata stamp.moment)) ∙ is)

by_source : (stamp : Stamp) (rows : Rows Body) (p : AccountPath) (source : Option (Object Body)) (x o : Object Body) → source ≡ Some x
    → object_at (linked rows p source stamp.moment) p ≡ Some o → link_reply md5_of stamp source ≡ stored_reply stamp o.number o.mtime o.body.md5
by_source stamp rows p source x o there is =
    ap (link_reply md5_of stamp) there
    ∙ tells stamp o (record x { mtime = stamp.moment })
    (sym (put_there rows p (record x { mtime = stamp.moment })) ∙ ap (λ (y : Option (Object Body)). object_at (linked rows p y stamp.moment) p) (sym there) ∙ is)

pub link_told : (stamp : Stamp) (s : State Body) (c : Conditions) (p source : AccountPath) (sum : List ℕ) (x o : Object Body) → object_at s.rows source ≡ Some x
    → object_at (step s (Link p source stamp.moment)).rows p ≡ Some o
    → reply_to len_of md5_of stamp s.count s.rows c (doing.PutLink p source) sum ≡ stored_reply stamp o.number o.mtime o.body.md5
unfolding step change
link_told stamp s c p source sum x o there is = by_source stamp s.rows p (object_at s.rows source) x o there is
