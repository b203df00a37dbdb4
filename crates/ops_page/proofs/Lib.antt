mod LiveTurns
