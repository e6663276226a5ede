use Rattle.smk_plan_live.proofs.new.kept_of.Goals as goal

pub returns : goal.returns
returns g c =
    record {
      texts = c.in_ok-judged.ensures.texts;
      table = c.in_ok-table.ensures;
      flags = c.in_ok-flags.ensures.now;
      made = c.in_ok-flags.ensures.made;
      readers = λ sound served. c.in_ok-readers.ensures sound served.apart;
    }
