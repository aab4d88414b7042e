use Rattle.std.proofs.Common.{◌∙◌, sym}
use Rattle.mt_types.specs.Fields.{values_of}
use Rattle.mt_http.proofs.FramingLemmas.{first_is}
use Rattle.mt_response.proofs.Lengths.{only-one}
use Rattle.mt_response.proofs.length.only_value.Goals as goal

pub returns-then-count_of-eq1 : goal.returns-then-count_of-eq1
returns-then-count_of-eq1 c =
    let fields = c.args.fields.now in
    let name = c.args.name.now in
    c.first_value.ensures ∙ first_is name fields ∙ only-one (values_of name fields) (sym c.count_of.ensures ∙ c.if-count_of-eq1.true)
