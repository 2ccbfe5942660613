use Rattle.std.proofs.Common.{◌≡◌, ◌++◌, [], arith, ap, sym, ◌∙◌, length, length-append}
use Rattle.rt_base.specs.declared.codes.Code.{Code}
use Rattle.susp_list.specs.Rows.{line}
use Rattle.ipc_queues.specs.Channels.{waits_at}
use Rattle.ipc_queues.specs.declared.ends.End.{End}
use Rattle.kernel_tables.specs.declared.wait_list.WaitList.{WaitList}
use Rattle.kernel_tables.specs.Tabled.{all_woken}
use Rattle.kernel_tables.specs.WaitLists.{objects_in}
use Rattle.kernel_tables.proofs.ListChangeLemmas.{shown-again}
use Rattle.kernel_tables.proofs.ChannelLemmas.{senders-apart, receivers-apart, ends-few, woken-more}
use Rattle.kernel_tables.proofs.waking.wake_ends.Goals as goal

pub wake_more-requires-clause-room : goal.wake_more-requires-clause-room
wake_more-requires-clause-room c = omega (arith, c.wake_all.ensures.few, c.len.ensures.len, c.len.ensures.few)

pub wake_more-requires-clause-there : goal.wake_more-requires-clause-there
wake_more-requires-clause-there c =
    let senders = WaitList.Channel c.args.kind End.Senders in
    let w = c.wake_all.ensures in
    omega (arith, c.requires.there, c.requires.tied.slots senders, w.tied.slots senders, ap (λ a. (objects_in a senders).limit) w.shown.objects)

-- those who wait to send, as before the receivers woke
senders : (c : goal.After-wake_more) → line (waits_at c.wake_all.new.lists.channels c.args.kind End.Senders c.args.no) ≡ line (waits_at c.args.lists.now.channels c.args.kind End.Senders c.args.no)
senders c = ap line (c.wake_all.ensures.others (WaitList.Channel c.args.kind End.Senders) c.args.no (senders-apart c.args.kind c.args.no))

both : (c : goal.After-wake_more) → c.wake_more.new.woken ≡ line (waits_at c.args.lists.now.channels c.args.kind End.Receivers c.args.no) ++ line (waits_at c.args.lists.now.channels c.args.kind End.Senders c.args.no)
both c =
    c.wake_more.ensures.woken
    ∙ ap (λ ts. ts ++ line (waits_at c.wake_all.new.lists.channels c.args.kind End.Senders c.args.no)) c.wake_all.ensures.woken
    ∙ ap (λ ts. line (waits_at c.args.lists.now.channels c.args.kind End.Receivers c.args.no) ++ ts) (senders c)

pub returns-clause-woken : goal.returns-clause-woken
returns-clause-woken c = both c

pub returns-clause-few : goal.returns-clause-few
returns-clause-few c =
    let all = line (waits_at c.args.lists.now.channels c.args.kind End.Receivers c.args.no) in
    let rest = line (waits_at c.args.lists.now.channels c.args.kind End.Senders c.args.no) in
    omega (arith, ap length (both c), length-append all rest, ends-few c.args.threads.now c.args.lists.now c.args.kind c.args.no c.requires.tied c.requires.there)

pub returns-clause-threads : goal.returns-clause-threads
returns-clause-threads c =
    woken-more Code.Error c.args.threads.now c.wake_all.new.threads c.wake_more.new.threads c.wake_all.new.woken (line (waits_at c.wake_all.new.lists.channels c.args.kind End.Senders c.args.no)) c.wake_all.ensures.threads c.wake_more.ensures.threads
    ∙ ap (all_woken Code.Error c.args.threads.now) (sym c.wake_more.ensures.woken)

pub returns-clause-shown : goal.returns-clause-shown
returns-clause-shown c = shown-again c.args.lists.now c.wake_all.new.lists c.wake_more.new.lists c.wake_all.ensures.shown c.wake_more.ensures.shown

pub returns-clause-empty : goal.returns-clause-empty
returns-clause-empty c = by_end where
  by_end : (end : End) → line (waits_at c.wake_more.new.lists.channels c.args.kind end c.args.no) ≡ []
  by_end End.Receivers = ap line (c.wake_more.ensures.others (WaitList.Channel c.args.kind End.Receivers) c.args.no (receivers-apart c.args.kind c.args.no)) ∙ c.wake_all.ensures.empty
  by_end End.Senders = c.wake_more.ensures.empty

pub returns-clause-tied : goal.returns-clause-tied
returns-clause-tied c = c.wake_more.ensures.tied
