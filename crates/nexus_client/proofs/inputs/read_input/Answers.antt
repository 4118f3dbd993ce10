use Rattle.nexus_client.proofs.inputs.read_input.Goals as goal

pub returns-in-RequestLines-clause-refused : goal.returns-in-RequestLines-clause-refused
returns-in-RequestLines-clause-refused c = rw c.in-RequestLines.is c.read_requests.ensures.refused
