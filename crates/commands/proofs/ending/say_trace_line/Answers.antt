use Rattle.commands.proofs.ending.say_trace_line.Goals as goal

pub returns-clause-ok : goal.returns-clause-ok
returns-clause-ok g c =
    rw (c.as_slice.ensures, c.as_bytes.ensures.value, c.format.ensures.text, c.as_slice-2.ensures)
    at c.put_parts.ensures.ok

pub returns-clause-front : goal.returns-clause-front
returns-clause-front g c =
    rw (c.as_slice.ensures, c.as_bytes.ensures.value, c.format.ensures.text, c.as_slice-2.ensures)
    at c.put_parts.ensures.front
