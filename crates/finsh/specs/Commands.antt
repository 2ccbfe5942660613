-- The commands of the code are those of the definitions.
use Rattle.rt_plain.specs.kernel.Tables.{Command, Lists, DumpsPower, TellsVersion, Helps, CommandRow, command_row}
use Rattle.finsh.specs.declared.commands.Deed.{Deed}
use Rattle.finsh.specs.declared.commands.Named.{Named}

-- what a command does
abbrev pub deed_of : Deed → Command
deed_of (Deed.Lists class) = Lists class
deed_of Deed.DumpsPower = DumpsPower
deed_of Deed.TellsVersion = TellsVersion
deed_of Deed.Helps = Helps

-- a row of the command list
abbrev pub row_of : Named → CommandRow
row_of named = command_row named.0.now (deed_of named.1)
