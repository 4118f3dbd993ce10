use Rattle.nexus_client.proofs.requests.read_requests.Goals as goal

pub returns-in-Ok-clause-only : goal.returns-in-Ok-clause-only
returns-in-Ok-clause-only c = λ others l. c.in-Ok.ensures.only others (rw c.new.ensures l)

pub returns-in-Err-Wrong-clause-refused : goal.returns-in-Err-Wrong-clause-refused
returns-in-Err-Wrong-clause-refused c = λ n others l. (rw c.in-Err-Wrong.field-0-is at c.in-Err-Wrong.ensures.refused) (λ e. cc) others tt (rw c.new.ensures l)
