use Rattle.std.proofs.Common.{Some, None}
use Rattle.std.proofs.lemmas.Str.Pattern.{split_parts}
use Rattle.my_script.proofs.Scripts.Cuts.{first_lacks, rest_lacks, first_at, rest_at}
use Rattle.my_script.proofs.words.cut_text.Goals as goal

pub returns-in-Some : goal.returns-in-Some
returns-in-Some c =
    let parts = split_parts c.args.mark c.args.text.now (Some (c.in-Some.first, c.in-Some.rest)) c.in-Some.ensures.cases c.requires in
    record {
      first = rw parts.0 (first_at _ _ _ parts.1);
      rest = rw parts.0 (rest_at _ _ _ parts.1);
    }

pub returns-in-None : goal.returns-in-None
returns-in-None c =
    let lacks = split_parts c.args.mark c.args.text.now None c.in-None.ensures.cases c.requires in
    record {
      first = first_lacks _ _ lacks;
      rest = rest_lacks _ _ lacks;
    }
