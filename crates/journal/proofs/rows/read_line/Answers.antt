use Rattle.std.proofs.Common.{◌∙◌, refl, sym, ap}
use Rattle.rt_plain.specs.text.Fields.{result_map}
use Rattle.rt_plain.specs.text.TraceRows.{line_made, line_in}
use Rattle.rt_plain.specs.declared.kind.TraceKind.{TraceKind}
use Rattle.rt_plain.proofs.text.SplitLemmas.{nows}
use Rattle.rt_plain.proofs.text.RowLemmas.{both-same, line-read}
use Rattle.journal.proofs.rows.read_line.Goals as goal

pub returns-in-Ok : goal.returns-in-Ok
returns-in-Ok c = line-read (nows c.args.words.now) c.args.kind TraceKind.Run _ c.in-Run.is (c.in-Ok.ensures ∙ both-same c.name.ensures refl)

pub returns-in-Err : goal.returns-in-Err
returns-in-Err c = line-read (nows c.args.words.now) c.args.kind TraceKind.Run _ c.in-Run.is (c.in-Err.ensures ∙ both-same c.name.ensures refl)

pub returns-in-Ok-all2 : goal.returns-in-Ok-all2
returns-in-Ok-all2 c = line-read (nows c.args.words.now) c.args.kind TraceKind.Out _ c.in-Out.is (c.in-Ok-all2.ensures ∙ both-same c.name-in-Out.ensures (both-same c.placed.ensures refl))

pub returns-in-Err-all2 : goal.returns-in-Err-all2
returns-in-Err-all2 c = line-read (nows c.args.words.now) c.args.kind TraceKind.Out _ c.in-Out.is (c.in-Err-all2.ensures ∙ both-same c.name-in-Out.ensures (both-same c.placed.ensures refl))

pub returns-in-Ok-all2-2 : goal.returns-in-Ok-all2-2
returns-in-Ok-all2-2 c = line-read (nows c.args.words.now) c.args.kind TraceKind.Wake _ c.in-Wake.is (c.in-Ok-all2-2.ensures ∙ both-same c.name-in-Wake.ensures (both-same c.woken.ensures refl))

pub returns-in-Err-all2-2 : goal.returns-in-Err-all2-2
returns-in-Err-all2-2 c = line-read (nows c.args.words.now) c.args.kind TraceKind.Wake _ c.in-Wake.is (c.in-Err-all2-2.ensures ∙ both-same c.name-in-Wake.ensures (both-same c.woken.ensures refl))

pub returns-in-Ok-all2-3 : goal.returns-in-Ok-all2-3
returns-in-Ok-all2-3 c = line-read (nows c.args.words.now) c.args.kind TraceKind.Cur _ c.in-Cur.is (c.in-Ok-all2-3.ensures ∙ both-same c.name-in-Cur.ensures (both-same c.changed.ensures refl))

pub returns-in-Err-all2-3 : goal.returns-in-Err-all2-3
returns-in-Err-all2-3 c = line-read (nows c.args.words.now) c.args.kind TraceKind.Cur _ c.in-Cur.is (c.in-Err-all2-3.ensures ∙ both-same c.name-in-Cur.ensures (both-same c.changed.ensures refl))

pub returns-in-Ok-all2-4 : goal.returns-in-Ok-all2-4
returns-in-Ok-all2-4 c = line-read (nows c.args.words.now) c.args.kind TraceKind.Fire _ c.in-Fire.is (c.in-Ok-all2-4.ensures ∙ both-same c.name-in-Fire.ensures (both-same c.acted.ensures refl))

pub returns-in-Err-all2-4 : goal.returns-in-Err-all2-4
returns-in-Err-all2-4 c = line-read (nows c.args.words.now) c.args.kind TraceKind.Fire _ c.in-Fire.is (c.in-Err-all2-4.ensures ∙ both-same c.name-in-Fire.ensures (both-same c.acted.ensures refl))

pub returns-in-Ok-all1 : goal.returns-in-Ok-all1
returns-in-Ok-all1 c = line-read (nows c.args.words.now) c.args.kind TraceKind.Timeout _ c.in-Timeout.is (c.in-Ok-all1.ensures ∙ both-same c.name-in-Timeout.ensures refl)

pub returns-in-Err-all1 : goal.returns-in-Err-all1
returns-in-Err-all1 c = line-read (nows c.args.words.now) c.args.kind TraceKind.Timeout _ c.in-Timeout.is (c.in-Err-all1.ensures ∙ both-same c.name-in-Timeout.ensures refl)

pub returns-in-Ok-all2-5 : goal.returns-in-Ok-all2-5
returns-in-Ok-all2-5 c = line-read (nows c.args.words.now) c.args.kind TraceKind.Rx _ c.in-Rx.is (c.in-Ok-all2-5.ensures ∙ both-same c.name-in-Rx.ensures (both-same c.received.ensures refl))

pub returns-in-Err-all2-5 : goal.returns-in-Err-all2-5
returns-in-Err-all2-5 c = line-read (nows c.args.words.now) c.args.kind TraceKind.Rx _ c.in-Rx.is (c.in-Err-all2-5.ensures ∙ both-same c.name-in-Rx.ensures (both-same c.received.ensures refl))

pub returns-in-Ok-all2-6 : goal.returns-in-Ok-all2-6
returns-in-Ok-all2-6 c = line-read (nows c.args.words.now) c.args.kind TraceKind.Tx _ c.in-Tx.is (c.in-Ok-all2-6.ensures ∙ both-same c.name-in-Tx.ensures (both-same c.text.ensures refl))

pub returns-in-Err-all2-6 : goal.returns-in-Err-all2-6
returns-in-Err-all2-6 c = line-read (nows c.args.words.now) c.args.kind TraceKind.Tx _ c.in-Tx.is (c.in-Err-all2-6.ensures ∙ both-same c.name-in-Tx.ensures (both-same c.text.ensures refl))

pub returns-in-Ok-all2-7 : goal.returns-in-Ok-all2-7
returns-in-Ok-all2-7 c = line-read (nows c.args.words.now) c.args.kind TraceKind.Sleep _ c.in-Sleep.is (c.in-Ok-all2-7.ensures ∙ both-same c.mode.ensures (both-same c.number.ensures refl))

pub returns-in-Err-all2-7 : goal.returns-in-Err-all2-7
returns-in-Err-all2-7 c = line-read (nows c.args.words.now) c.args.kind TraceKind.Sleep _ c.in-Sleep.is (c.in-Err-all2-7.ensures ∙ both-same c.mode.ensures (both-same c.number.ensures refl))

pub returns-in-Ok-all1-2 : goal.returns-in-Ok-all1-2
returns-in-Ok-all1-2 c = line-read (nows c.args.words.now) c.args.kind TraceKind.Suspend _ c.in-Suspend.is (c.in-Ok-all1-2.ensures ∙ both-same c.name-in-Suspend.ensures refl)

pub returns-in-Err-all1-2 : goal.returns-in-Err-all1-2
returns-in-Err-all1-2 c = line-read (nows c.args.words.now) c.args.kind TraceKind.Suspend _ c.in-Suspend.is (c.in-Err-all1-2.ensures ∙ both-same c.name-in-Suspend.ensures refl)

pub returns-in-Ok-all1-3 : goal.returns-in-Ok-all1-3
returns-in-Ok-all1-3 c = line-read (nows c.args.words.now) c.args.kind TraceKind.Resume _ c.in-Resume.is (c.in-Ok-all1-3.ensures ∙ both-same c.name-in-Resume.ensures refl)

pub returns-in-Err-all1-3 : goal.returns-in-Err-all1-3
returns-in-Err-all1-3 c = line-read (nows c.args.words.now) c.args.kind TraceKind.Resume _ c.in-Resume.is (c.in-Err-all1-3.ensures ∙ both-same c.name-in-Resume.ensures refl)

pub returns-in-Ok-all1-4 : goal.returns-in-Ok-all1-4
returns-in-Ok-all1-4 c = line-read (nows c.args.words.now) c.args.kind TraceKind.Tick _ c.in-Tick.is (c.in-Ok-all1-4.ensures ∙ both-same c.number-in-Tick.ensures refl)

pub returns-in-Err-all1-4 : goal.returns-in-Err-all1-4
returns-in-Err-all1-4 c = line-read (nows c.args.words.now) c.args.kind TraceKind.Tick _ c.in-Tick.is (c.in-Err-all1-4.ensures ∙ both-same c.number-in-Tick.ensures refl)

pub returns-in-Ok-all1-5 : goal.returns-in-Ok-all1-5
returns-in-Ok-all1-5 c = line-read (nows c.args.words.now) c.args.kind TraceKind.Print _ c.in-Print.is (c.in-Ok-all1-5.ensures ∙ both-same c.text-in-Print.ensures refl)

pub returns-in-Err-all1-5 : goal.returns-in-Err-all1-5
returns-in-Err-all1-5 c = line-read (nows c.args.words.now) c.args.kind TraceKind.Print _ c.in-Print.is (c.in-Err-all1-5.ensures ∙ both-same c.text-in-Print.ensures refl)

pub returns-in-Ok-all1-6 : goal.returns-in-Ok-all1-6
returns-in-Ok-all1-6 c = line-read (nows c.args.words.now) c.args.kind TraceKind.Close _ c.in-Close.is (c.in-Ok-all1-6.ensures ∙ both-same c.name-in-Close.ensures refl)

pub returns-in-Err-all1-6 : goal.returns-in-Err-all1-6
returns-in-Err-all1-6 c = line-read (nows c.args.words.now) c.args.kind TraceKind.Close _ c.in-Close.is (c.in-Err-all1-6.ensures ∙ both-same c.name-in-Close.ensures refl)

pub returns-in-Ok-all2-8 : goal.returns-in-Ok-all2-8
returns-in-Ok-all2-8 c = line-read (nows c.args.words.now) c.args.kind TraceKind.Own _ c.in-Own.is (c.in-Ok-all2-8.ensures ∙ both-same c.name-in-Own.ensures (both-same c.name-in-Own-2.ensures refl))

pub returns-in-Err-all2-8 : goal.returns-in-Err-all2-8
returns-in-Err-all2-8 c = line-read (nows c.args.words.now) c.args.kind TraceKind.Own _ c.in-Own.is (c.in-Err-all2-8.ensures ∙ both-same c.name-in-Own.ensures (both-same c.name-in-Own-2.ensures refl))

pub returns-in-Ok-all1-7 : goal.returns-in-Ok-all1-7
returns-in-Ok-all1-7 c = line-read (nows c.args.words.now) c.args.kind TraceKind.Mode _ c.in-Mode.is (c.in-Ok-all1-7.ensures ∙ both-same c.mode-in-Mode.ensures refl)

pub returns-in-Err-all1-7 : goal.returns-in-Err-all1-7
returns-in-Err-all1-7 c = line-read (nows c.args.words.now) c.args.kind TraceKind.Mode _ c.in-Mode.is (c.in-Err-all1-7.ensures ∙ both-same c.mode-in-Mode.ensures refl)

pub returns-in-Ok-all2-9 : goal.returns-in-Ok-all2-9
returns-in-Ok-all2-9 c = line-read (nows c.args.words.now) c.args.kind TraceKind.Work _ c.in-Work.is (c.in-Ok-all2-9.ensures ∙ both-same c.name-in-Work.ensures (both-same c.acted-in-Work.ensures refl))

pub returns-in-Err-all2-9 : goal.returns-in-Err-all2-9
returns-in-Err-all2-9 c = line-read (nows c.args.words.now) c.args.kind TraceKind.Work _ c.in-Work.is (c.in-Err-all2-9.ensures ∙ both-same c.name-in-Work.ensures (both-same c.acted-in-Work.ensures refl))

pub returns-in-Ok-all1-8 : goal.returns-in-Ok-all1-8
returns-in-Ok-all1-8 c = line-read (nows c.args.words.now) c.args.kind TraceKind.Unwork _ c.in-Unwork.is (c.in-Ok-all1-8.ensures ∙ both-same c.name-in-Unwork.ensures refl)

pub returns-in-Err-all1-8 : goal.returns-in-Err-all1-8
returns-in-Err-all1-8 c = line-read (nows c.args.words.now) c.args.kind TraceKind.Unwork _ c.in-Unwork.is (c.in-Err-all1-8.ensures ∙ both-same c.name-in-Unwork.ensures refl)

pub returns-in-Ok-read_stated : goal.returns-in-Ok-read_stated
unfolding line_in
returns-in-Ok-read_stated c = rw (c.in-Done.is, c.make_done.ensures) (ap (result_map (line_made TraceKind.Done)) (sym (sym c.read_stated.ensures ∙ c.in-Ok-read_stated.is)))

pub returns-in-Err-read_stated : goal.returns-in-Err-read_stated
unfolding line_in
returns-in-Err-read_stated c = rw c.in-Done.is (ap (result_map (line_made TraceKind.Done)) (sym (sym c.read_stated.ensures ∙ c.in-Err-read_stated.is)))

pub returns-in-Ok-read_stated-2 : goal.returns-in-Ok-read_stated-2
unfolding line_in
returns-in-Ok-read_stated-2 c = rw (c.in-Again.is, c.make_again.ensures) (ap (result_map (line_made TraceKind.Again)) (sym (sym c.read_stated-in-Again.ensures ∙ c.in-Ok-read_stated-2.is)))

pub returns-in-Err-read_stated-2 : goal.returns-in-Err-read_stated-2
unfolding line_in
returns-in-Err-read_stated-2 c = rw c.in-Again.is (ap (result_map (line_made TraceKind.Again)) (sym (sym c.read_stated-in-Again.ensures ∙ c.in-Err-read_stated-2.is)))
