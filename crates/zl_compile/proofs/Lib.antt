mod LaterRefusals
mod MainBlock
mod NamesRefusals
mod NeverBoth
mod OneTyping
mod RuledUses
mod TreeRefusals
