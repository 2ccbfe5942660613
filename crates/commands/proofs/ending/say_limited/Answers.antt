use Rattle.commands.proofs.ending.say_limited.Goals as goal

pub returns-clause-ok : goal.returns-clause-ok
returns-clause-ok g c =
    rw (c.as_slice.ensures, c.as_bytes.ensures.value, c.format.ensures.text, c.as_slice-2.ensures, c.as_bytes-2.ensures.value, c.format-2.ensures.text, c.as_slice-3.ensures)
    at c.put_parts.ensures.ok

pub returns-clause-front : goal.returns-clause-front
returns-clause-front g c =
    rw (c.as_slice.ensures, c.as_bytes.ensures.value, c.format.ensures.text, c.as_slice-2.ensures, c.as_bytes-2.ensures.value, c.format-2.ensures.text, c.as_slice-3.ensures)
    at c.put_parts.ensures.front
