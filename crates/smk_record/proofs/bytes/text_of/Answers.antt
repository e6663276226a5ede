use Rattle.smk_record.proofs.Digits.{text_found, text_not_found}
use Rattle.smk_record.proofs.bytes.text_of.Goals as goal

pub returns-in-Ok : goal.returns-in-Ok
returns-in-Ok c =
    let h = c.in-Ok.ensures.cases in
    text_found c.args.length c.args.bytes.now c.in-Ok.word.now c.split_at.result.0.now c.split_at.result.1.now c.in_ok-rest.rest.now c.split_at.ensures.front c.split_at.ensures.back h.0 h.1 c.in_ok-rest.ensures

pub returns-in-Err : goal.returns-in-Err
returns-in-Err c =
    text_not_found c.args.length c.args.bytes.now c.split_at.result.0.now c.split_at.result.1.now c.in_ok-rest.rest.now c.split_at.ensures.front c.split_at.ensures.back c.in-Err.ensures.cases.0 c.in_ok-rest.ensures
