mod CardLoops
