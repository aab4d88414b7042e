use Rattle.std.proofs.Common.{◌≡◌, ◌++◌, true, rules, append-nil}
use Rattle.std.specs.Prelude.{OnOk, string_bytes, decimal, codes}
use Rattle.mt_ask.specs.Requests.{body_len, field, field_line, has_length}
use Rattle.mt_ask.proofs.request.put_length.Goals as goal

pub returns : goal.returns
returns c =
    let has : has_length c.args.ask.now ≡ true = search rules in
    let line : OnOk c.put_number.result (string_bytes c.put_number.new.out ≡ string_bytes c.args.out.now ++ field_line (field (codes "content-length") (decimal (body_len c.args.ask.now c.args.len)))) = search rules in
    rw (has, append-nil) line
