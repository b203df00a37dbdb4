mod LiveLoop
