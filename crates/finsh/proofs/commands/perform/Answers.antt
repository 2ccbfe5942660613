use Rattle.finsh.proofs.commands.perform.Goals as goal

pub returns-in-DumpsPower-clause-items : goal.returns-in-DumpsPower-clause-items
returns-in-DumpsPower-clause-items g c = rw c.in-DumpsPower.is c.dump_power.ensures.items

pub returns-in-TellsVersion-clause-items : goal.returns-in-TellsVersion-clause-items
returns-in-TellsVersion-clause-items g c = rw c.in-TellsVersion.is c.print.ensures.items
