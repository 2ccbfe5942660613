use Rattle.std.proofs.Common.{ap}
use Rattle.rt_base.specs.declared.codes.Class.{Class}
use Rattle.object_box.specs.Objects.{ClassObjects}
use Rattle.kernel_tables.proofs.lists.Lists.new.Goals as goal

pub returns : goal.returns
returns c = record {
  sem_objects = ap (λ (o : ClassObjects). o.objects) (c.in_ok-objects.ensures Class.Sem);
  event_objects = ap (λ (o : ClassObjects). o.objects) (c.in_ok-objects.ensures Class.Event);
  mailbox_objects = ap (λ (o : ClassObjects). o.objects) (c.in_ok-objects.ensures Class.Mailbox);
  queue_objects = ap (λ (o : ClassObjects). o.objects) (c.in_ok-objects.ensures Class.MsgQueue);
  sem_limit = ap (λ (o : ClassObjects). o.limit) (c.in_ok-objects.ensures Class.Sem);
  event_limit = ap (λ (o : ClassObjects). o.limit) (c.in_ok-objects.ensures Class.Event);
  mailbox_limit = ap (λ (o : ClassObjects). o.limit) (c.in_ok-objects.ensures Class.Mailbox);
  queue_limit = ap (λ (o : ClassObjects). o.limit) (c.in_ok-objects.ensures Class.MsgQueue);
  sems_sound = c.count.ensures.sound;
  events_sound = c.count-2.ensures.sound;
  mailboxes_sound = c.count-3.ensures.sound;
  queues_sound = c.count-4.ensures.sound;
  free_sems = c.in_ok-sems.ensures;
  free_events = c.in_ok-events.ensures;
  mailbox_slots = c.in_ok-channels.ensures.mailboxes;
  queue_slots = c.in_ok-channels.ensures.queues;
  free_channels = c.in_ok-channels.ensures.free;
}
