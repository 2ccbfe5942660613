use Rattle.std.proofs.Common.{ℕ, ◌≡◌, ◌<◌, ◌∙◌, sym, ap, subst, refl, List, [], length, map}
use Rattle.rt_plain.specs.PlainBoard.{PlainBoard}
use Rattle.rt_plain.specs.kernel.Opening.{new_script_thread}
use Rattle.rt_plain.specs.kernel.State.{Thread}
use Rattle.ready_list.specs.Ordered.{ReadySeen, none_ready, with_rows}
use Rattle.kernel_tables.specs.Ready.{IsReady, IsWithin, row_for, started, threads_in}
use Rattle.kernel_tables.specs.Listed.{plain_sem, plain_sems, plain_event, plain_events, plain_mailbox, plain_mailboxes, plain_queue, plain_queues}
use Rattle.kernel_tables.specs.Threads.{row_at}
use Rattle.kernel_tables.proofs.EmptyLemmas.{tied_empty}
use Rattle.kernel_tables.proofs.ReadyLemmas.{opened-within, opened-ready, threads-rows}
use Rattle.kernel_tables.proofs.tables.Tables.open.Goals as goal

pub start-requires-clause-within : goal.start-requires-clause-within
start-requires-clause-within c =
    let b : PlainBoard = c.args.board.now in
    let first : c.new-threads.result ≡ map new_script_thread b.threads = c.new-threads.ensures ∙ c.in_ok-threads_of.ensures ∙ ap (map new_script_thread) (c.as_slice.ensures ∙ ap (λ (x : PlainBoard). x.threads) c.board.view_is) in
    let none : c.in_ok-ready.ready ≡ none_ready c.len-count.result b.cores b.levels = c.in_ok-ready.ensures ∙ ap (λ (x : PlainBoard). none_ready c.len-count.result x.cores x.levels) c.board.view_is in
    subst (λ (r : ReadySeen). (t : ℕ) → t < length c.new-threads.result → IsWithin r (row_at c.new-threads.result t)) (sym none) (opened-within (none_ready c.len-count.result b.cores b.levels) c.new-threads.result b.threads first c.requires.threads)

pub invariant_of-tables : goal.invariant_of-tables
invariant_of-tables c =
    let b : PlainBoard = c.args.board.now in
    let first : c.new-threads.result ≡ map new_script_thread b.threads = c.new-threads.ensures ∙ c.in_ok-threads_of.ensures ∙ ap (map new_script_thread) (c.as_slice.ensures ∙ ap (λ (x : PlainBoard). x.threads) c.board.view_is) in
    let none : c.in_ok-ready.ready ≡ none_ready c.len-count.result b.cores b.levels = c.in_ok-ready.ensures ∙ ap (λ (x : PlainBoard). none_ready c.len-count.result x.cores x.levels) c.board.view_is in
    let rows = map (row_for c.new-threads.result) (started c.new-threads.result (length c.new-threads.result)) in record {
      tied = tied_empty c.new-threads.result c.as_slice.result.now c.in_ok-lists.lists _ _ _ _ c.len-count.result c.in_ok-lists.ensures c.len-count.ensures.len (c.new-threads.ensures ∙ c.in_ok-threads_of.ensures);
      ready = subst (IsReady c.new-threads.result) (sym (c.start.ensures ∙ ap (λ (r : ReadySeen). with_rows r rows) none)) (opened-ready (with_rows (none_ready c.len-count.result b.cores b.levels) rows) c.new-threads.result b.threads first c.requires.threads c.len-count.ensures.len refl);
    }

pub create_objects-requires-clause-bare : goal.create_objects-requires-clause-bare
create_objects-requires-clause-bare c =
    let b : PlainBoard = c.args.board.now in
    let first : c.new-threads.result ≡ map new_script_thread b.threads = c.new-threads.ensures ∙ c.in_ok-threads_of.ensures ∙ ap (map new_script_thread) (c.as_slice.ensures ∙ ap (λ (x : PlainBoard). x.threads) c.board.view_is) in
    let none : c.in_ok-ready.ready ≡ none_ready c.len-count.result b.cores b.levels = c.in_ok-ready.ensures ∙ ap (λ (x : PlainBoard). none_ready c.len-count.result x.cores x.levels) c.board.view_is in
    let rows = map (row_for c.new-threads.result) (started c.new-threads.result (length c.new-threads.result)) in
    let ready : c.start.new.ready ≡ with_rows (none_ready c.len-count.result b.cores b.levels) rows = c.start.ensures ∙ ap (λ (r : ReadySeen). with_rows r rows) none in
    let order : threads_in c.start.new.ready.rows ≡ started (map new_script_thread b.threads) (length (map new_script_thread b.threads)) =
    ap (λ (r : ReadySeen). threads_in r.rows) ready
    ∙ threads-rows c.new-threads.result (started c.new-threads.result (length c.new-threads.result))
    ∙ ap (λ (xs : List Thread). started xs (length xs)) first in
    let l = c.in_ok-lists.lists in
    let e = c.in_ok-lists.ensures in
    let sems : plain_sems l ≡ [] = ap (map (plain_sem l.sems.items)) e.sem_objects in
    let events : plain_events l ≡ [] = ap (map (plain_event l.events.items)) e.event_objects in
    let mailboxes : plain_mailboxes l ≡ [] = ap (map (plain_mailbox l.channels)) e.mailbox_objects in
    let queues : plain_queues l ≡ [] = ap (map (plain_queue l.channels)) e.queue_objects in
    let cores : c.start.new.ready.cores ≡ b.cores = ap (λ (r : ReadySeen). r.cores) ready in
    let levels : c.start.new.ready.levels ≡ b.levels = ap (λ (r : ReadySeen). r.levels) ready in
    let sem_limit : l.objects.sem.limit ≡ b.limits.sem = e.sem_limit ∙ ap (λ (x : PlainBoard). x.limits.sem) c.board.view_is in
    let event_limit : l.objects.event.limit ≡ b.limits.event = e.event_limit ∙ ap (λ (x : PlainBoard). x.limits.event) c.board.view_is in
    let mailbox_limit : l.objects.mailbox.limit ≡ length b.mailboxes = e.mailbox_limit ∙ ap length (c.as_slice-2.ensures ∙ ap (λ (x : PlainBoard). x.mailboxes) c.board.view_is) in
    let queue_limit : l.objects.msgqueue.limit ≡ length b.queues = e.queue_limit ∙ ap length (c.as_slice-3.ensures ∙ ap (λ (x : PlainBoard). x.queues) c.board.view_is) in
    λ k. record {
      threads = first k;
      ready = order k;
      cores = cores k;
      levels = levels k;
      sems = sems k;
      events = events k;
      mailboxes = mailboxes k;
      queues = queues k;
      sem_limit = sem_limit k;
      event_limit = event_limit k;
      mailbox_limit = mailbox_limit k;
      queue_limit = queue_limit k;
    }
