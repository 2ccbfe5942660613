use Rattle.finsh.proofs.Printed.{name_short}
use Rattle.finsh.proofs.commands.help.Goals as goal

pub put_name-requires-clause-short : goal.put_name-requires-clause-short
put_name-requires-clause-short c = name_short c.commands-named-items.result.now c.loop-named.named-index _ c.commands-named-items.ensures c.loop-named-test.true
