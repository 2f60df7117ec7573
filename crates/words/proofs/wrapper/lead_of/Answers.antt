use Prim.Native.Nat.{◌+◌}
use Rattle.words.proofs.wrapper.Laws.{no_space}
use Rattle.words.specs.Steps.{LeadTold}
use Rattle.words.proofs.wrapper.lead_of.Goals as goal
use Rattle.words.proofs.wrapper.lead_of.Goals.{After-count_by}

told : (c : After-count_by) → LeadTold c.args.phrase.now c.more_by-more.result (c.count_by.result + c.more_by-more.result)
told c =
    let eight = c.eight_of-eight.ensures in
    record {
      enough = rw c.if-not-may_lead.false at c.may_lead.ensures;
      more_told = rw (← eight) c.more_by-more.ensures;
      count_told = rw (← eight, c.count_by.ensures);
    }

pub returns-then-phrase-count : goal.returns-then-phrase-count
returns-then-phrase-count c = no_space c.args.phrase.now (told (goal.at.returns-then-phrase-count c).After-count_by) c.if-phrase-count.true
